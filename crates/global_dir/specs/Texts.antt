-- Patterns as they are written, taken apart.
use Rattle.std.specs.Prelude.{ℕ, List}
use Rattle.global_defs.specs.Pattern.{ends_in_star, stem}
use Rattle.journal_defs.specs.Directory.{Pattern}

-- the pattern that is written so, for a region
abbrev pub pattern_of : ℕ → List ℕ → Pattern
pattern_of region text = record { region = region; star = ends_in_star text; name = stem text }
