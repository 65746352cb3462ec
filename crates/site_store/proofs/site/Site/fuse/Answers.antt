use Rattle.std.proofs.Common.{refl}
use Rattle.site_store.proofs.Owned.{going_read, open_site_read}
use Rattle.site_store.proofs.site.Site.fuse.Goals as goal

pub returns-clause-ready : goal.returns-clause-ready
returns-clause-ready g c = going_read g.D.Disk.disk c.args.self.now (record c.args.self.now { disk = c.fuse.new.self }) c.fuse.ensures.reads refl refl refl refl

pub returns-clause-stays_open : goal.returns-clause-stays_open
returns-clause-stays_open g c told x h = open_site_read g.D.Disk.disk c.args.self.now (record c.args.self.now { disk = c.fuse.new.self }) told x h (g.met.D.Disk.lawful c.fuse.new.self) c.fuse.ensures.reads refl refl
