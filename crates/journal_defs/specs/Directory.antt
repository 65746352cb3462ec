-- Which region a name belongs to (GT.M: the global directory; this project has two kinds of pattern).
use Rattle.std.specs.Prelude.{ℕ, ◌&&◌, ◌==◌, Bool, true, nat_lt, List, [], ◌∷◌, length, Option, Some, None, if◌then◌else◌}
use Rattle.std.specs.List.{starts_with, filter_map}
use Rattle.journal_defs.specs.Instance.{InstanceRecord, Create, Reigned, Cut, Map, Mode}

-- a name, or with a star each name that begins with it
pub record Pattern : Type 0 where
  pub region : ℕ
  pub star : Bool
  pub name : List ℕ

abbrev pub is_matched : List ℕ → Pattern → Bool
is_matched name p = starts_with (λ a b. a == b) name p.name && (if p.star then true else length name == length p.name)

-- of two patterns that a name matches the second wins: an exact name over every prefix, a longer prefix over a shorter one
abbrev pub is_beaten : Pattern → Pattern → Bool
is_beaten p q = p.star && (if q.star then nat_lt (length p.name) (length q.name) else true)

-- the winner among those that the name matches and this one
abbrev pub winner : List ℕ → Pattern → List Pattern → Pattern
winner name p [] = p
winner name p (q ∷ qs) = winner name (if is_matched name q && is_beaten p q then q else p) qs

-- the first region takes what no pattern takes
abbrev pub rest : Pattern
rest = record { region = 0; star = true; name = [] }

abbrev pub region_of : List Pattern → List ℕ → ℕ
region_of patterns name = (winner name rest patterns).region

abbrev pub pattern_in : InstanceRecord → Option Pattern
pattern_in (Map region star name) = Some (record { region = region; star = star; name = name })
pattern_in (Create name regions) = None
pattern_in (Reigned r) = None
pattern_in (Cut n g) = None
pattern_in (Mode region before) = None

-- the patterns of an instance file, in the order of their records
abbrev pub patterns : List InstanceRecord → List Pattern
patterns instance = filter_map pattern_in instance
