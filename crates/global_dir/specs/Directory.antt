-- Directories of global names, and what patterns of the code stand for.
use Rattle.std.specs.Prelude.{ℕ, Bool, ◌&&◌, not, if◌then◌else◌, List, [], ◌∷◌, ◌++◌, Option, Some, None}
use Rattle.std.specs.List.{list_any}
use Rattle.std.specs.Str.{bytes_eq}
use Rattle.journal_defs.specs.Directory as defs
use Rattle.global_dir.specs.declared.pattern.Pattern.{Pattern}

-- how many regions there are, and the patterns in the order of their mapping
pub record Mapping : Type 0 where
  pub regions : ℕ
  pub patterns : List defs.Pattern

abbrev pub pattern_value : Pattern → defs.Pattern
pattern_value p = record { region = p.region; star = p.star; name = p.name }

-- the best pattern so far, or the rest where there is none
abbrev pub standing : Option Pattern → defs.Pattern
standing None = defs.rest
standing (Some p) = pattern_value p

abbrev pub pattern_with : ℕ → Bool → List ℕ → defs.Pattern
pattern_with region star name = record { region = region; star = star; name = name }

-- one pattern more
abbrev pub with_pattern : Mapping → defs.Pattern → Mapping
with_pattern d p = record { regions = d.regions; patterns = d.patterns ++ p ∷ [] }

-- this name, and a star where one is asked for
abbrev pub is_written : Bool → List ℕ → defs.Pattern → Bool
is_written star name p = (if p.star then star else not star) && bytes_eq p.name name

-- one of the patterns is written so, whatever its region
abbrev pub is_mapped : List defs.Pattern → Bool → List ℕ → Bool
is_mapped patterns star name = list_any (λ p. is_written star name p) patterns
