use Rattle.std.proofs.Common.{◌≡◌, map, drop}
use Rattle.journal_defs.specs.Directory.{winner, rest}
use Rattle.global_dir.specs.Directory.{pattern_value, standing}
use Rattle.std.specs.Option.{option_map}
use Rattle.global_dir.proofs.directory.region_by.Given as goal

-- the best one so far goes on to win as the rest does at the start
abbrev pub invariant-loop-pattern : goal.invariant-loop-pattern
invariant-loop-pattern l = winner l.name (standing (option_map (λ p. p.now) l.best)) (map pattern_value (drop l.pattern-index l.patterns)) ≡ winner l.name rest (map pattern_value l.patterns)
