use Rattle.std.proofs.Common.{◌≡◌, ◌≤◌, ◌<◌, ℕ, IfSome}
use Rattle.disk_defs.specs.Disk.{Image, AtEachMoment}
use Rattle.jnl_file.specs.Generations.{AreDurable}
use Rattle.entry_index.proofs.side_by_side.sync_all.Given as goal

abbrev pub invariant-loop-region : goal.invariant-loop-region
invariant-loop-region g l =
    let u = g.D.Disk.disk l.fn.disk in
    let v = g.D.Disk.disk l.disk in
    record {
      durable : IfSome u.content (λ files. (r : ℕ) → r < l.region → AreDurable v r l.last files);
      content : v.content ≡ u.content;
      moments : AtEachMoment u v (Image u);
      simulated : v.simulated ≡ u.simulated;
      faults : u.faults ≤ v.faults;
    }
