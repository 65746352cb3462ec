use Rattle.std.proofs.Common.{◌≡◌, ℕ, ◌≤◌, length, map, IfSome}
use Rattle.disk_defs.specs.Disk.{Image, AtEachMoment}
use Rattle.site_files.specs.Loading.{last_of}
use Rattle.site_files.specs.Reading.{HaveSigns, AreAllDurable}
use Rattle.site_files.proofs.reading.read_regions.Given as goal

abbrev pub invariant-loop-region : goal.invariant-loop-region
invariant-loop-region g l =
    let view = g.D.Disk.disk in
    let u = view l.fn.disk in
    let v = view l.disk in
    record {
      read : IfSome u.content (HaveSigns l.region l.fn.last (last_of l.last_began.items) (map (λ s. s.items) l.signs.items));
      many : length l.signs.items ≡ l.region;
      many_last : length l.last_began.items ≡ l.region;
      began : (r : ℕ) → last_of l.last_began.items r ≤ l.fn.last;
      durable : IfSome u.content (AreAllDurable v l.region l.fn.last);
      content : v.content ≡ u.content;
      moments : AtEachMoment u v (Image u);
      simulated : v.simulated ≡ u.simulated;
      faults : u.faults ≤ v.faults;
    }
