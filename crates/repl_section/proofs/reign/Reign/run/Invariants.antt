use Rattle.std.proofs.Common.{◌≡◌, ◌≤◌, ◌+◌, Bool, length}
use Rattle.site_store.specs.Site.{HasReign}
use Rattle.site_defs.specs.Contents.{Contents}
use Rattle.repl_section.specs.Reigns.{Reigns, stamp_of}
use Rattle.repl_section.proofs.Turns.{HasGone, come_to}
use Rattle.repl_section.proofs.reign.Reign.run.Given as goal
use Rattle.site_store.specs.Owning.{disk_of, memory_of, IsGoing}

abbrev pub invariant-loop-updater : goal.invariant-loop-updater
invariant-loop-updater g l = record {
  ready : IsGoing g.D.Disk.disk l.self.site;
  reign : HasReign (memory_of l.self.site);
  stamp : (memory_of l.self.site).stamp ≡ (memory_of l.fn.self.site).stamp;
  enough : length l.order ≤ l.undecided + l.updater-index;
  gone : (told : Bool) (c : Contents) → Reigns (g.D.Disk.disk (disk_of l.fn.self.site)) told c l.fn.self
      → HasGone (g.D.Disk.disk (disk_of l.self.site)) (stamp_of l.fn.self) told c (come_to (stamp_of l.fn.self) l.fn.self.serials (g.J.JobSource.jobs l.fn.jobs) l.order l.updater-index c.sequence) (g.J.JobSource.jobs l.jobs) l.undecided (length l.order) l.self (g.S.ReplySink.gave l.fn.sink l.sink);
  simulated : (g.D.Disk.disk (disk_of l.self.site)).simulated ≡ (g.D.Disk.disk (disk_of l.fn.self.site)).simulated;
  later : (g.D.Disk.disk (disk_of l.fn.self.site)).faults ≤ (g.D.Disk.disk (disk_of l.self.site)).faults;
}
