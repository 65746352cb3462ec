use Rattle.std.proofs.Common.{◌≡◌, ◌≤◌, ℕ, length, IfSome}
use Rattle.disk_defs.specs.Disk.{Reads}
use Rattle.entry_index.specs.Cursors.{AreReady, AllReadOnFor}
use Rattle.entry_index.proofs.side_by_side.read_all_on.Given as goal

abbrev pub invariant-loop-place : goal.invariant-loop-place
invariant-loop-place g l =
    let view = g.D.Disk.disk in
    record {
      many : length l.cursors.items ≡ length l.fn.cursors.items;
      ready : (last : ℕ) → AreReady (view l.fn.disk).content last l.fn.cursors.items → AreReady (view l.disk).content last l.cursors.items;
      read : IfSome (view l.fn.disk).content (AllReadOnFor l.cuts l.lowest l.settled l.fn.cursors.items l.cursors.items);
      reads : Reads (view l.fn.disk) (view l.disk);
      faults : (view l.fn.disk).faults ≤ (view l.disk).faults;
    }
