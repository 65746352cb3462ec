use Rattle.resync_core.proofs.SingleSteps as steps
use Rattle.resync_core.proofs.runs.runs_hold.Goals as goal

pub returns : goal.returns
returns c = record { joined = steps.joined; decided = steps.decided; shipped = steps.shipped }
