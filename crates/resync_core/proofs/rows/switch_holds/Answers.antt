use Rattle.resync_core.proofs.RowSteps as rows
use Rattle.resync_core.proofs.rows.switch_holds.Goals as goal

pub returns : goal.returns
returns c = record { start = rows.start; before = rows.switch-before; common = rows.switch-common; after = rows.switch-after }
