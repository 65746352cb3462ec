use Rattle.std.proofs.Common.{◌≡◌, ◌≤◌, length, max, IfSome}
use Rattle.disk_defs.specs.Disk.{Reads}
use Rattle.journal_defs.specs.Epochs.{Chosen}
use Rattle.before_image.specs.Undoing.{Undoes}
use Rattle.region_store.specs.Laid.{AreLaid}
use Rattle.region_store.proofs.reading.read_blocks.Given as goal

abbrev pub invariant-loop-number : goal.invariant-loop-number
invariant-loop-number g l =
    let view = g.D.Disk.disk in
    let u = view l.fn.disk in
    let v = view l.disk in
    record {
      few : l.number ≤ max 1 l.blocks;
      told : IfSome u.content (λ files. l.source.length ≡ length (files l.source.file));
      laid : IfSome u.content (λ files. (e : Chosen) → Undoes l.undo e → AreLaid e (files l.file) l.pool l.number);
      reads : Reads u v;
      faults : u.faults ≤ v.faults;
    }
