use Rattle.std.proofs.Common.{true}
use Rattle.site_defs.specs.Epochs.{marked}
use Rattle.mupip_rollback.proofs.Closed.{stands_for}
use Rattle.mupip_rollback.proofs.Errors.{epoch_was}
use Rattle.mupip_rollback.proofs.recovering.close.Goals as goal

pub returns-in-Ok-clause-done : goal.returns-in-Ok-clause-done
returns-in-Ok-clause-done g c x is = stands_for (g.D.Disk.disk c.epoch.new.disk) (marked x) c.epoch.new.self (g.met.D.Disk.lawful c.epoch.new.disk) (c.in-Ok.ensures.done true x is) (c.in-Ok.ensures.none_needs x is)

pub returns-clause-causes : goal.returns-clause-causes
returns-clause-causes g c = epoch_was c.in-Err.error c.in_site.result c.in_site.ensures c.in-Err.ensures.causes
