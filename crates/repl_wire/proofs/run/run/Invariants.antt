use Rattle.std.proofs.Common.{length, ◌-◌}
use Rattle.repl_wire.specs.Feeds.{Running}
use Rattle.repl_wire.specs.Scans.{Completing}
use Rattle.repl_wire.proofs.run.run.Given as goal

abbrev pub invariant-loop-i : goal.invariant-loop-i
invariant-loop-i l = Running l.scan (Completing l.fn.scan) l.bytes l.i

abbrev pub decreases-loop-i : goal.decreases-loop-i
decreases-loop-i l = length l.bytes - l.i
