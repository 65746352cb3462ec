use Rattle.std.proofs.Common.{◌≡◌, ◌≤◌, ◌<◌, ◌+◌, ℕ, length, get_or, Option}
use Rattle.disk_defs.specs.Disk.{Files}
use Rattle.entry_index.specs.Cursors.{AreReady, Settles}
use Rattle.entry_index.specs.declared.cursor.Cursor.{Cursor}
use Rattle.entry_index.proofs.side_by_side.settle_all.Given as goal

abbrev pub invariant-loop-place : goal.invariant-loop-place
invariant-loop-place l = record {
  many : length l.cursors.items ≡ length l.fn.cursors.items;
  ready : (content : Option Files) (last : ℕ) → AreReady content last l.fn.cursors.items → AreReady content last l.cursors.items;
  settled : (files : Files) (n : ℕ) → l.number ≡ n + 1 → (r : ℕ) (d : Cursor) → r < l.place → Settles files n (get_or l.fn.cursors.items r d) (get_or l.cursors.items r d);
  later : (r : ℕ) (d : Cursor) → l.place ≤ r → get_or l.cursors.items r d ≡ get_or l.fn.cursors.items r d;
}
