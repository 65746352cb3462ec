use Rattle.std.proofs.Common.{◌≡◌, ◌≤◌, List, map, take, IfSome}
use Rattle.disk_defs.specs.Disk.{Reads}
use Rattle.journal_defs.specs.Sequence.{Placed}
use Rattle.block_laws.specs.Nodes.{AreFormed}
use Rattle.jnl_record.specs.Values.{placed_value}
use Rattle.region_opening.specs.Images.{images_in}
use Rattle.region_opening.specs.Signs.{AreTold}
use Rattle.region_opening.proofs.images.read_images.Given as goal

abbrev pub invariant-loop-placed : goal.invariant-loop-placed
invariant-loop-placed g l =
    let view = g.D.Disk.disk in
    let u = view l.fn.disk in
    let v = view l.disk in
    record {
      forms : AreFormed (map placed_value l.made.items);
      images : IfSome u.content (λ files. (journal : List Placed) → AreTold files l.fn.region l.behind journal → map placed_value l.made.items ≡ images_in (take l.placed-index journal));
      reads : Reads u v;
      faults : u.faults ≤ v.faults;
    }
