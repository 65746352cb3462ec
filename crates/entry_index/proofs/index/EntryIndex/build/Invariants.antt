use Rattle.std.proofs.Common.{◌≡◌, ◌≤◌, ◌*◌, ℕ, List, length, map, IfSome}
use Rattle.disk_defs.specs.Disk.{Reads}
use Rattle.journal_defs.specs.Sequence.{Placed}
use Rattle.entry_index.specs.Indexes.{AreSigns}
use Rattle.entry_index.proofs.Runs.{IsRun}
use Rattle.entry_index.proofs.index.EntryIndex.build.Given as goal
use Rattle.entry_index.specs.Among.{ArePlaced}

abbrev pub invariant-loop-place : goal.invariant-loop-place
invariant-loop-place g l =
    let view = g.D.Disk.disk in
    record {
      regions : l.made.regions ≡ length l.signs;
      many : length l.made.places.items ≡ l.made.regions * l.place;
      placed : ArePlaced l.instance (map (λ s. s.items) l.signs) l.made;
      run : IfSome (view l.fn.disk).content (λ files. (records : ℕ → List Placed) → AreSigns files (map (λ s. s.items) l.signs) records → IsRun files (record { instance = l.instance; journal = records }) l.made l.place);
      reads : Reads (view l.fn.disk) (view l.disk);
      faults : (view l.fn.disk).faults ≤ (view l.disk).faults;
    }
