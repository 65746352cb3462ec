use Rattle.std.proofs.Common.{◌≤◌}
use Rattle.disk_defs.specs.Disk.{Reads}
use Rattle.region_store.proofs.Logs.{AreLoggedTo}
use Rattle.region_store.proofs.region.Region.log_changed.Given as goal

abbrev pub invariant-loop-number : goal.invariant-loop-number
invariant-loop-number g l =
    let view = g.D.Disk.disk in
    let u = view l.fn.disk in
    record {
      logged : AreLoggedTo u.content l.self l.numbers l.number-index (g.L.Log.images l.fn.log) (g.L.Log.images l.log);
      reads : Reads u (view l.disk);
      faults : u.faults ≤ (view l.disk).faults;
    }
