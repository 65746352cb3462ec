use Rattle.std.proofs.Common.{◌≡◌, ◌≤◌, List, map, take, IfSome}
use Rattle.disk_defs.specs.Disk.{Reads}
use Rattle.journal_defs.specs.Sequence.{Placed}
use Rattle.jnl_record.specs.Values.{placed_value}
use Rattle.site_files.specs.Past.{all_past, AreRegionSigns}
use Rattle.site_files.proofs.past.read_region.Given as goal

abbrev pub invariant-loop-placed : goal.invariant-loop-placed
invariant-loop-placed g l =
    let view = g.D.Disk.disk in
    let u = view l.fn.disk in
    let v = view l.disk in
    record {
      read : IfSome u.content (λ files. (journal : List Placed) → AreRegionSigns files l.fn.region l.signs journal → map placed_value l.made.items ≡ all_past l.fn.length (take l.placed-index journal));
      reads : Reads u v;
      faults : u.faults ≤ v.faults;
    }
