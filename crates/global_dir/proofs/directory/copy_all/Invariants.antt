use Rattle.std.proofs.Common.{◌≡◌, take}
use Rattle.global_dir.proofs.directory.copy_all.Given as goal

abbrev pub invariant-loop-pattern : goal.invariant-loop-pattern
invariant-loop-pattern l = l.made.items ≡ take l.pattern-index l.patterns
