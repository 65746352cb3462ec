-- Records with more behind them: what a call appends, and what a crash leaves of it.
use Rattle.std.specs.Prelude.{◌≡◌, ◌⊎◌, ℕ, ◌+◌, ◌<◌, ◌==◌, if◌then◌else◌, true, List, [], ◌∷◌, ◌++◌, Option, Some, None}
use Rattle.std.specs.List.{AllByRecursion, filter_map}
use Rattle.std.specs.Option.{option_map}
use Rattle.journal_defs.specs.Journal.{JournalRecord, Pini, Epoch, Pblk, Tcom, Part}
use Rattle.journal_defs.specs.Instance.{InstanceRecord}
use Rattle.global_defs.specs.Entry.{Sequence}
use Rattle.global_defs.specs.Prefix.{stamp_at}
use Rattle.journal_defs.specs.Surviving.{survives, reigns}
use Rattle.journal_defs.specs.Sequence.{Placed, Records, parts, in_mask, is_like, entry_with}

-- with one record more in the instance file
abbrev pub with_record : Records → InstanceRecord → Records
with_record s r = record { instance = s.instance ++ r ∷ []; journal = s.journal }

-- with these records more at the ends of the regions' journals
abbrev pub with_more : Records → (ℕ → List Placed) → Records
with_more s more = record { instance = s.instance; journal = λ r. s.journal r ++ more r }

abbrev pub placed : ℕ → Option Part → List Placed
placed g None = []
placed g (Some p) = record { generation = g; what = Tcom p } ∷ []

-- with these parts at the ends of their regions' journals, in this generation
abbrev pub with_parts : Records → ℕ → (ℕ → Option Part) → Records
with_parts s g part = record { instance = s.instance; journal = λ r. s.journal r ++ placed g (part r) }

-- each record of the journals stands in an earlier generation
abbrev pub IsBefore : ℕ → Records → Type 0
IsBefore g s = (r : ℕ) → AllByRecursion (λ p. p.generation < g) (s.journal r)

-- no part of an entry past this length survives
abbrev pub NonePast : ℕ → Records → Type 0
NonePast length s = (n r : ℕ) → length < n → parts s n r ≡ None

-- the parts have this number
abbrev pub AreNumbered : ℕ → (ℕ → Option Part) → Type 0
AreNumbered n part = (r : ℕ) (p : Part) → part r ≡ Some p → p.number ≡ n

-- The parts of one entry are alike, and each stands in a region of their mask.
pub record AreTidy (part : ℕ → Option Part) : Type 0 where
  pub alike : (r q : ℕ) (p o : Part) → part r ≡ Some p → part q ≡ Some o → is_like p (Some o) ≡ true
  pub within : (r : ℕ) (p : Part) → part r ≡ Some p → in_mask p.mask r ≡ true

-- the parts of each entry past this length are tidy
abbrev pub TidyPast : ℕ → Records → Type 0
TidyPast length s = (n : ℕ) → length < n → AreTidy (parts s n)

-- what these entries append to a region's journal, one part after another
abbrev pub appended : ℕ → List (ℕ → Option Part) → ℕ → List Placed
appended g [] r = []
appended g (p ∷ ps) r = placed g (p r) ++ appended g ps r

-- these are the parts of these entries, of which the first has the number after n, in this generation
abbrev pub AreEntries : List InstanceRecord → ℕ → ℕ → List (ℕ → Option Part) → Sequence → Type 0
AreEntries instance g n [] [] = Unit {0}
AreEntries instance g n [] (e ∷ es) = ⊥
AreEntries instance g n (p ∷ ps) [] = ⊥
AreEntries instance g n (p ∷ ps) (e ∷ es) = AreNumbered (n + 1) p × AreTidy p × (survives instance g (n + 1) ≡ true)
    × (entry_with p (stamp_at (n + 1) (reigns instance)) ≡ Some e) × AreEntries instance g (n + 1) ps es

-- what survives of u survives of v, where parts may have come besides
abbrev pub HasFewer : Records → Records → Type 0
HasFewer u v = (n r : ℕ) → (parts u n r ≡ None) ⊎ (parts u n r ≡ parts v n r)

-- the number that later parts have to pass
abbrev pub passed : ℕ → JournalRecord → ℕ
passed low (Tcom p) = p.number
passed low (Pini s) = low
passed low (Epoch m) = low
passed low (Pblk b) = low

abbrev pub IsPast : ℕ → JournalRecord → Type 0
IsPast low (Tcom p) = low < p.number
IsPast low (Pini s) = Unit {0}
IsPast low (Epoch m) = Unit {0}
IsPast low (Pblk b) = Unit {0}

-- the numbers of parts rise, from above this one
abbrev pub NumbersRise : ℕ → List Placed → Type 0
NumbersRise low [] = Unit {0}
NumbersRise low (p ∷ ps) = IsPast low p.what × NumbersRise (passed low p.what) ps

-- with these records more at the end of a region's journal
abbrev pub with_journal : Records → ℕ → List Placed → Records
with_journal s r ps = record { instance = s.instance; journal = λ q. if q == r then s.journal q ++ ps else s.journal q }

-- the TCOM records of these entries in a region
abbrev pub tcoms : List (ℕ → Option Part) → ℕ → List JournalRecord
tcoms ps r = filter_map (λ p. option_map (λ x. Tcom x) (p r)) ps
