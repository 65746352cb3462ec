use Rattle.std.proofs.Common.{◌≡◌, ◌≤◌, ◌<◌, ℕ, length, get_or, IfSome}
use Rattle.disk_defs.specs.Disk.{Reads}
use Rattle.entry_index.specs.Cursors.{AreReady, IsDone, AllReadOutBy}
use Rattle.entry_index.specs.declared.cursor.Cursor.{Cursor}
use Rattle.entry_index.proofs.side_by_side.read_all_out.Given as goal

abbrev pub invariant-loop-place : goal.invariant-loop-place
invariant-loop-place g l =
    let view = g.D.Disk.disk in
    record {
      many : length l.cursors.items ≡ length l.fn.cursors.items;
      ready : (last : ℕ) → AreReady (view l.fn.disk).content last l.fn.cursors.items → AreReady (view l.disk).content last l.cursors.items;
      read : IfSome (view l.fn.disk).content (AllReadOutBy l.cuts l.low l.fn.cursors.items l.cursors.items);
      done : (r : ℕ) (d : Cursor) → r < l.place → IsDone (get_or l.cursors.items r d);
      reads : Reads (view l.fn.disk) (view l.disk);
      faults : (view l.fn.disk).faults ≤ (view l.disk).faults;
    }
