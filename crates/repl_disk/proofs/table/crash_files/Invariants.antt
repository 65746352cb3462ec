use Rattle.std.proofs.Common.{◌<◌, ◌≡◌, length}
use Rattle.repl_disk.proofs.Crashes.{Turned}
use Rattle.repl_disk.proofs.table.crash_files.Given as goal

abbrev pub invariant-loop-i : goal.invariant-loop-i
invariant-loop-i l = record {
  first : l.first < 3;
  same_end : l.i-end ≡ length l.fn.files.items;
  turned : Turned l.fn.files.items l.files.items l.i;
}
