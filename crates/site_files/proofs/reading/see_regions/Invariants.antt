use Rattle.std.proofs.Common.{◌≡◌, ◌≤◌, IfSome}
use Rattle.disk_defs.specs.Disk.{Image, AtEachMoment}
use Rattle.site_files.specs.Reading.{AreUnbegunDurable}
use Rattle.site_defs.specs.Outside.{AreUnbegun}
use Rattle.site_files.proofs.reading.see_regions.Given as goal

abbrev pub invariant-loop-region : goal.invariant-loop-region
invariant-loop-region g l =
    let view = g.D.Disk.disk in
    let u = view l.fn.disk in
    let v = view l.disk in
    record {
      next : IfSome u.content (AreUnbegun l.region l.fn.generation);
      durable : IfSome u.content (AreUnbegunDurable v l.region l.fn.generation);
      content : v.content ≡ u.content;
      moments : AtEachMoment u v (Image u);
      simulated : v.simulated ≡ u.simulated;
      faults : u.faults ≤ v.faults;
    }
