use Rattle.std.proofs.Common.{◌≡◌, ◌≤◌, IfSome}
use Rattle.disk_defs.specs.Disk.{Image, AtEachMoment}
use Rattle.site_store.specs.Opening.{AreTextsDurable}
use Rattle.site_store.proofs.syncing.sync_texts.Given as goal

abbrev pub invariant-loop-earlier : goal.invariant-loop-earlier
invariant-loop-earlier g l =
    let view = g.D.Disk.disk in
    let u = view l.fn.disk in
    let v = view l.disk in
    record {
      durable : IfSome u.content (AreTextsDurable v l.earlier);
      content : v.content ≡ u.content;
      moments : AtEachMoment u v (Image u);
      simulated : v.simulated ≡ u.simulated;
      faults : u.faults ≤ v.faults;
    }
