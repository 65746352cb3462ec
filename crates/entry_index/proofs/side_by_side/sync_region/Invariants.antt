use Rattle.std.proofs.Common.{◌≡◌, ◌≤◌, IfSome}
use Rattle.disk_defs.specs.Disk.{Image, AtEachMoment}
use Rattle.disk_defs.specs.Frames.{OthersStay}
use Rattle.jnl_file.specs.Generations.{AreJournals, AreDurable}
use Rattle.entry_index.proofs.side_by_side.sync_region.Given as goal

abbrev pub invariant-loop-before : goal.invariant-loop-before
invariant-loop-before g l =
    let u = g.D.Disk.disk l.fn.disk in
    let v = g.D.Disk.disk l.disk in
    record {
      durable : IfSome u.content (AreDurable v l.region l.before);
      content : v.content ≡ u.content;
      moments : AtEachMoment u v (Image u);
      frame : OthersStay (AreJournals l.region l.last) u v;
      faults : u.faults ≤ v.faults;
    }
