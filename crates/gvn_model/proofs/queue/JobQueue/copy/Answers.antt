use Rattle.std.proofs.Common.{arith}
use Rattle.gvn_model.specs.Jobs.{job_value}
use Rattle.gvn_model.proofs.Places.{take-slice_get}
use Rattle.gvn_model.proofs.queue.JobQueue.copy.Goals as goal

-- src/queue.rt:94:9
pub loop-i-preserved : goal.loop-i-preserved
loop-i-preserved c = grind (arith, c.push.ensures.ok, c.loop-i.invariant, c.in_ok-copy.ensures, c.item.ensures, take-slice_get c.args.self.now c.loop-i.i (job_value c.item.result.now) c.item.ensures)
