use Rattle.disk_defs.proofs.Frames.{others_same}
use Rattle.site_store.proofs.Logged as logging
use Rattle.site_store.proofs.memory.Memory.log_touched.Goals as goal

pub returns-in_err-blocks-clause-goes_on : goal.returns-in_err-blocks-clause-goes_on
returns-in_err-blocks-clause-goes_on g c is = logging.logged_none (g.D.Disk.disk c.args.disk.now) c.args.self.now c.requires.ready

pub returns-in_err-blocks-clause-moments : goal.returns-in_err-blocks-clause-moments
returns-in_err-blocks-clause-moments g c = logging.moments_none (g.D.Disk.disk c.args.disk.now) c.args.self.now

pub returns-in_err-blocks-clause-frame : goal.returns-in_err-blocks-clause-frame
returns-in_err-blocks-clause-frame g c = others_same _ (g.D.Disk.disk c.args.disk.now)
