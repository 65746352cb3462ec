use Rattle.std.proofs.Common.{◌≡◌, ◌≤◌, ◌*◌, ℕ, length, IfSome}
use Rattle.disk_defs.specs.Disk.{Reads}
use Rattle.entry_index.specs.Cursors.{AreReady, HaveAdded, FromStart}
use Rattle.entry_index.proofs.side_by_side.add_all.Given as goal

abbrev pub invariant-loop-done : goal.invariant-loop-done
invariant-loop-done g l =
    let view = g.D.Disk.disk in
    record {
      many : length l.cursors.items ≡ length l.fn.cursors.items;
      regions : l.made.regions ≡ l.fn.made.regions;
      rows : length l.made.places.items ≡ l.made.regions * l.done;
      ready : (last : ℕ) → AreReady (view l.fn.disk).content last l.fn.cursors.items → AreReady (view l.disk).content last l.cursors.items;
      added : IfSome (view l.fn.disk).content (FromStart l.cuts l.starts l.lowest l.fn.cursors.items (λ files instance. HaveAdded files instance l.lowest l.done l.cursors.items l.made));
      reads : Reads (view l.fn.disk) (view l.disk);
      faults : (view l.fn.disk).faults ≤ (view l.disk).faults;
    }
