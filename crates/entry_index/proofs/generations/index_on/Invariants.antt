use Rattle.std.proofs.Common.{◌≡◌, ◌≤◌, ◌-◌, ◌^◌, ◌⊎◌, IfSome}
use Rattle.disk_defs.specs.Disk.{Reads}
use Rattle.entry_index.specs.Pieces.{IsPieceOf}
use Rattle.entry_index.proofs.Indexing.{Indexed}
use Rattle.entry_index.proofs.generations.index_on.Given as goal

abbrev pub invariant-loop-sign : goal.invariant-loop-sign
invariant-loop-sign g l =
    let view = g.D.Disk.disk in
    record {
      indexed : IfSome (view l.fn.disk).content (λ files. Indexed files l.fn.region l.fn.generation l.fn.previous l.at l.fn.into.items l.into.items l.began);
      began : (l.began ≡ l.fn.previous) ⊎ (l.began ≡ l.fn.generation);
      told : IfSome (view l.disk).content (IsPieceOf l.pieces);
      same : l.pieces.file ≡ l.fn.pieces.file;
      reads : Reads (view l.fn.disk) (view l.disk);
      faults : (view l.fn.disk).faults ≤ (view l.disk).faults;
    }

abbrev pub decreases-loop-sign : goal.decreases-loop-sign
decreases-loop-sign g l = 2 ^ 64 - l.at
