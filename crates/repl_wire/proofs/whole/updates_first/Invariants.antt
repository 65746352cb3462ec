use Rattle.std.proofs.Common.{◌≡◌, length}
use Rattle.repl_wire.specs.Wholes.{StandBefore}
use Rattle.repl_wire.proofs.whole.updates_first.Given as goal

abbrev pub invariant-loop : goal.invariant-loop
invariant-loop l = (length l.updates ≡ l.counter) × StandBefore l.updates l.bytes l.rest
