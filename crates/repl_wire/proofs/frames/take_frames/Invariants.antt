use Rattle.std.proofs.Common.{length}
use Rattle.repl_wire.specs.Feeds.{Takes}
use Rattle.repl_wire.proofs.frames.take_frames.Given as goal

abbrev pub invariant-loop-entry : goal.invariant-loop-entry
invariant-loop-entry l = Takes l.fn.offset l.fn.bytes l.fn.out l.out l.offset l.rest

abbrev pub decreases-loop-entry : goal.decreases-loop-entry
decreases-loop-entry l = length l.rest
