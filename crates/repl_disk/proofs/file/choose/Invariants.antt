use Rattle.std.proofs.Common.{◌≡◌, ◌<◌, ℕ, length, get_or, true, false}
use Rattle.repl_disk.proofs.file.choose.Given as goal

abbrev pub invariant-loop-i : goal.invariant-loop-i
invariant-loop-i l = record {
  number : l.number < 3;
  length : length l.read ≡ length l.fn.read;
  same : (k : ℕ) → get_or l.marks k true ≡ false → get_or l.read k 0 ≡ get_or l.fn.read k 0;
}
