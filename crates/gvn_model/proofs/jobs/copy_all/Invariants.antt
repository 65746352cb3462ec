use Rattle.std.proofs.Common.{◌≡◌, take}
use Rattle.gvn_model.proofs.jobs.copy_all.Given as goal

abbrev pub invariant-loop-queue : goal.invariant-loop-queue
invariant-loop-queue l = l.made.items ≡ take l.queue-index l.jobs
