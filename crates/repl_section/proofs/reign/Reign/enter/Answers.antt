use Rattle.repl_section.proofs.Standing.{open_site, stands_after}
use Rattle.repl_section.proofs.reign.Reign.enter.Goals as goal
use Rattle.site_store.specs.Owning.{disk_of, memory_of}

pub returns-in-Ok-clause-stands : goal.returns-in-Ok-clause-stands
returns-in-Ok-clause-stands g c x h r =
    let is = open_site g.D.Disk.disk _ x h c.args.self.now.site c.requires.ready r in
    stands_after (g.D.Disk.disk (disk_of c.args.self.now.site)) (g.D.Disk.disk (disk_of c.commit.new.self)) x h (memory_of c.args.self.now.site) (g.met.D.Disk.lawful (disk_of c.commit.new.self)) r c.commit.ensures.still_told
    (c.commit.ensures.any_moment x h is) (c.commit.ensures.bare x h is)

pub returns-in-Err-Failed-clause-stands : goal.returns-in-Err-Failed-clause-stands
returns-in-Err-Failed-clause-stands g c x h r =
    let is = open_site g.D.Disk.disk _ x h c.args.self.now.site c.requires.ready r in
    stands_after (g.D.Disk.disk (disk_of c.args.self.now.site)) (g.D.Disk.disk (disk_of c.commit.new.self)) x h (memory_of c.args.self.now.site) (g.met.D.Disk.lawful (disk_of c.commit.new.self)) r c.commit.ensures.still_told
    (c.commit.ensures.any_moment x h is) (c.commit.ensures.bare x h is)

pub returns-in-Err-NoMemory-clause-stands : goal.returns-in-Err-NoMemory-clause-stands
returns-in-Err-NoMemory-clause-stands g c x h r =
    let is = open_site g.D.Disk.disk _ x h c.args.self.now.site c.requires.ready r in
    stands_after (g.D.Disk.disk (disk_of c.args.self.now.site)) (g.D.Disk.disk (disk_of c.commit.new.self)) x h (memory_of c.args.self.now.site) (g.met.D.Disk.lawful (disk_of c.commit.new.self)) r c.commit.ensures.still_told
    (c.commit.ensures.any_moment x h is) (c.commit.ensures.bare x h is)

pub returns-in-Ok-clause-done : goal.returns-in-Ok-clause-done
returns-in-Ok-clause-done g c told x h r = (c.in-Ok.ensures.done told x h (open_site g.D.Disk.disk told x h c.args.self.now.site c.requires.ready r)).inner
