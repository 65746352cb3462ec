use Rattle.std.proofs.Common.{◌≡◌, length}
use Rattle.global_defs.specs.Fields.{IsUpdate, spelled_update}
use Rattle.repl_wire.proofs.Found.{ReadSoFar}
use Rattle.repl_wire.proofs.reading.read_updates.Given as goal

abbrev pub invariant-loop : goal.invariant-loop
invariant-loop l = (length l.updates ≡ l.counter) × ReadSoFar IsUpdate spelled_update l.bytes l.count l.updates l.rest
