use Rattle.resync_core.proofs.RowSteps as rows
use Rattle.resync_core.proofs.rows.parting_holds.Goals as goal

pub returns : goal.returns
returns c = record { parted = rows.parting; common = rows.parting-common }
