use Rattle.disk_defs.proofs.Moments.{holds_now}
use Rattle.repl_section.proofs.Standing.{open_site}
use Rattle.repl_section.proofs.reign.Reign.harden.Goals as goal
use Rattle.site_store.specs.Owning.{disk_of}

pub returns-in-Ok-clause-done : goal.returns-in-Ok-clause-done
returns-in-Ok-clause-done g c told x h r = (c.in-Ok.ensures.done told x h (open_site g.D.Disk.disk told x h c.args.self.now.site c.requires.ready r)).inner

pub returns-in-Ok-clause-images : goal.returns-in-Ok-clause-images
returns-in-Ok-clause-images g c x h r =
    holds_now (g.D.Disk.disk (disk_of c.args.self.now.site)) (g.D.Disk.disk (disk_of c.harden.new.self)) _ (g.met.D.Disk.lawful (disk_of c.harden.new.self))
    (c.harden.ensures.any_moment x h (open_site g.D.Disk.disk _ x h c.args.self.now.site c.requires.ready r))

pub returns-in-Err-Failed-clause-images : goal.returns-in-Err-Failed-clause-images
returns-in-Err-Failed-clause-images g c x h r =
    holds_now (g.D.Disk.disk (disk_of c.args.self.now.site)) (g.D.Disk.disk (disk_of c.harden.new.self)) _ (g.met.D.Disk.lawful (disk_of c.harden.new.self))
    (c.harden.ensures.any_moment x h (open_site g.D.Disk.disk _ x h c.args.self.now.site c.requires.ready r))

pub returns-in-Ok-clause-left : goal.returns-in-Ok-clause-left
returns-in-Ok-clause-left g c x h r =
    holds_now (g.D.Disk.disk (disk_of c.args.self.now.site)) (g.D.Disk.disk (disk_of c.harden.new.self)) _ (g.met.D.Disk.lawful (disk_of c.harden.new.self))
    (c.harden.ensures.left x h (open_site g.D.Disk.disk _ x h c.args.self.now.site c.requires.ready r))

pub returns-in-Err-Failed-clause-left : goal.returns-in-Err-Failed-clause-left
returns-in-Err-Failed-clause-left g c x h r =
    holds_now (g.D.Disk.disk (disk_of c.args.self.now.site)) (g.D.Disk.disk (disk_of c.harden.new.self)) _ (g.met.D.Disk.lawful (disk_of c.harden.new.self))
    (c.harden.ensures.left x h (open_site g.D.Disk.disk _ x h c.args.self.now.site c.requires.ready r))
