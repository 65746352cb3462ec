use Rattle.std.proofs.Common.{◌≡◌, ◌≤◌, IfSome}
use Rattle.disk_defs.specs.Disk.{Image, AtEachMoment}
use Rattle.site_store.specs.Opening.{AreDatabasesDurable}
use Rattle.site_store.proofs.syncing.sync_databases.Given as goal

abbrev pub invariant-loop-region : goal.invariant-loop-region
invariant-loop-region g l =
    let view = g.D.Disk.disk in
    let u = view l.fn.disk in
    let v = view l.disk in
    record {
      durable : IfSome u.content (AreDatabasesDurable v l.region);
      content : v.content ≡ u.content;
      moments : AtEachMoment u v (Image u);
      simulated : v.simulated ≡ u.simulated;
      faults : u.faults ≤ v.faults;
    }
