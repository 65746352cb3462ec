use Rattle.std.proofs.Common.{◌≡◌, map, drop}
use Rattle.global_dir.specs.Directory.{pattern_value, is_mapped}
use Rattle.global_dir.proofs.directory.is_mapped.Given as goal

-- what is left tells it
abbrev pub invariant-loop-pattern : goal.invariant-loop-pattern
invariant-loop-pattern l = is_mapped (map pattern_value (drop l.pattern-index l.patterns)) l.star l.name ≡ is_mapped (map pattern_value l.patterns) l.star l.name
