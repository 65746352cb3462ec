-- The records of an instance file, and their bodies (GT.M: the replication instance file and its history records; the layout is this project's).
use Rattle.std.specs.Prelude.{◌≡◌, ℕ, ◌^◌, ◌<◌, ◌≤◌, ◌==◌, max, Bool, List, [], ◌∷◌, ◌++◌, length, slice_get, IsTrue, Option, Some, None, if◌then◌else◌}
use Rattle.std.specs.Int.{to_be_bytes, w32, w64}
use Rattle.std.specs.List.{AllByRecursion, flat_map}
use Rattle.std.specs.Option.{option_or, option_map}
use Rattle.global_defs.specs.declared.limits.TheConstants.{LONGEST_NAME, MOST_GENERATIONS, MOST_REGIONS, NUMBERS_END}
use Rattle.global_defs.specs.Entry.{Reign}
use Rattle.global_defs.specs.Valid.{is_name}
use Rattle.global_defs.specs.Pattern.{ends_in_star, stem}
use Rattle.global_defs.specs.Fields.{flag, short, IsSiteName, IsReign}
use Rattle.global_defs.specs.Region.{Region}

pub data InstanceRecord : Type 0 where
  Create : (name : List ℕ) → (regions : List Region) → InstanceRecord
  Reigned : Reign → InstanceRecord
  -- entries past this length count no more where they stand in an earlier generation than this one
  Cut : (length generation : ℕ) → InstanceRecord
  Map : (region : ℕ) → (star : Bool) → (name : List ℕ) → InstanceRecord
  Mode : (region : ℕ) → (before : Bool) → InstanceRecord

-- the MAP of a pattern that is written so
abbrev pub pattern_record : ℕ → List ℕ → InstanceRecord
pattern_record region text = Map region (ends_in_star text) (stem text)

abbrev pub spelled_region : Region → List ℕ
spelled_region r = short r.name ++ flag r.before ∷ []

-- 01 CREATE with version 1, 02 REIGN, 03 CUT, 04 MAP, 05 MODE
abbrev pub spelled_record : InstanceRecord → List ℕ
spelled_record (Create name regions) = 1 ∷ 1 ∷ short name ++ length regions ∷ flat_map spelled_region regions
spelled_record (Reigned r) = 2 ∷ short r.stamp.root ++ (to_be_bytes w32 r.stamp.cycle ++ to_be_bytes w64 r.start)
spelled_record (Cut n g) = 3 ∷ to_be_bytes w64 n ++ to_be_bytes w32 g
spelled_record (Map region star name) = 4 ∷ region ∷ flag star ∷ short name
spelled_record (Mode region before) = 5 ∷ region ∷ flag before ∷ []

abbrev pub IsInForm : InstanceRecord → Type 0
IsInForm (Create name regions) = IsSiteName name × (1 ≤ length regions) × (length regions ≤ MOST_REGIONS) × AllByRecursion (λ r. IsSiteName r.name) regions
IsInForm (Reigned r) = IsReign r
IsInForm (Cut n g) = (n < NUMBERS_END) × (1 ≤ g) × (g ≤ MOST_GENERATIONS)
IsInForm (Map region star name) = (region < MOST_REGIONS) × IsTrue (is_name name) × (length name ≤ LONGEST_NAME)
IsInForm (Mode region before) = region < MOST_REGIONS

-- these bytes are the body of this record
pub record IsInstanceBody (body : List ℕ) (r : InstanceRecord) : Type 0 where
  pub form : IsInForm r
  pub spelled : body ≡ spelled_record r

abbrev pub IsNoCreate : InstanceRecord → Type 0
IsNoCreate (Create name regions) = ⊥
IsNoCreate (Reigned r) = Unit {0}
IsNoCreate (Cut n g) = Unit {0}
IsNoCreate (Map region star name) = Unit {0}
IsNoCreate (Mode region before) = Unit {0}

abbrev pub IsNoCut : InstanceRecord → Type 0
IsNoCut (Cut n g) = ⊥
IsNoCut (Create name regions) = Unit {0}
IsNoCut (Reigned r) = Unit {0}
IsNoCut (Map region star name) = Unit {0}
IsNoCut (Mode region before) = Unit {0}

-- CREATE is the first record and no other one is
abbrev pub BeginsWithCreate : List InstanceRecord → Type 0
BeginsWithCreate [] = Unit {0}
BeginsWithCreate (Create name regions ∷ rs) = AllByRecursion IsNoCreate rs
BeginsWithCreate (Reigned r ∷ rs) = ⊥
BeginsWithCreate (Cut n g ∷ rs) = ⊥
BeginsWithCreate (Map region star name ∷ rs) = ⊥
BeginsWithCreate (Mode region before ∷ rs) = ⊥

-- generations of CUT records rise, from above this one
abbrev pub CutsRise : ℕ → List InstanceRecord → Type 0
CutsRise low [] = Unit {0}
CutsRise low (Cut n g ∷ rs) = (low < g) × CutsRise g rs
CutsRise low (Create name regions ∷ rs) = CutsRise low rs
CutsRise low (Reigned r ∷ rs) = CutsRise low rs
CutsRise low (Map region star name ∷ rs) = CutsRise low rs
CutsRise low (Mode region before ∷ rs) = CutsRise low rs

-- the site's name, of CREATE
abbrev pub site_name : List InstanceRecord → List ℕ
site_name [] = []
site_name (Create name rs ∷ more) = name
site_name (Reigned r ∷ more) = []
site_name (Cut n g ∷ more) = []
site_name (Map region star name ∷ more) = []
site_name (Mode region before ∷ more) = []

-- the site's regions, of CREATE
abbrev pub regions : List InstanceRecord → List Region
regions [] = []
regions (Create name rs ∷ more) = rs
regions (Reigned r ∷ more) = []
regions (Cut n g ∷ more) = []
regions (Map region star name ∷ more) = []
regions (Mode region before ∷ more) = []

-- the greatest generation of a CUT, or 0
abbrev pub generation : List InstanceRecord → ℕ
generation [] = 0
generation (Cut n g ∷ rs) = max g (generation rs)
generation (Create name regions ∷ rs) = generation rs
generation (Reigned r ∷ rs) = generation rs
generation (Map region star name ∷ rs) = generation rs
generation (Mode region before ∷ rs) = generation rs

-- the greatest cycle of a REIGN, also of one that a CUT dropped, or 0; the next one to be drawn is one more
abbrev pub greatest_cycle : List InstanceRecord → ℕ
greatest_cycle [] = 0
greatest_cycle (Reigned r ∷ rs) = max r.stamp.cycle (greatest_cycle rs)
greatest_cycle (Create name regions ∷ rs) = greatest_cycle rs
greatest_cycle (Cut n g ∷ rs) = greatest_cycle rs
greatest_cycle (Map region star name ∷ rs) = greatest_cycle rs
greatest_cycle (Mode region before ∷ rs) = greatest_cycle rs

-- the mode that the record gives the region
abbrev pub mode_in : InstanceRecord → ℕ → Option Bool
mode_in (Create name regions) r = option_map (λ x. x.before) (slice_get regions r)
mode_in (Mode region before) r = if region == r then Some before else None
mode_in (Reigned x) r = None
mode_in (Cut n g) r = None
mode_in (Map region star name) r = None

-- the region's mode, which holds for later generations: the last one that it was given
abbrev pub mode_of : List InstanceRecord → ℕ → Option Bool
mode_of [] r = None
mode_of (x ∷ xs) r = option_or (mode_of xs r) (mode_in x r)
