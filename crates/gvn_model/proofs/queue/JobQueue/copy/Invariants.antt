use Rattle.std.proofs.Common.{◌≡◌, take}
use Rattle.gvn_model.proofs.queue.JobQueue.copy.Given as goal

abbrev pub invariant-loop-i : goal.invariant-loop-i
invariant-loop-i l = l.made ≡ take l.i l.self
