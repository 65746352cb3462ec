-- Fields of records.
use Rattle.std.specs.Prelude.{◌≡◌, ℕ, ◌≤◌, List, length, IsTrue}
use Rattle.std.specs.List.{AllByRecursion}
use Rattle.global_defs.specs.declared.limits.TheConstants.{LONGEST_NAME}
use Rattle.global_defs.specs.Valid.{is_name}
use Rattle.global_defs.specs.Fields.{IsSiteName}
use Rattle.global_defs.specs.Region.{Region}

-- the name of a global
abbrev pub IsGlobalName : List ℕ → Type 0
IsGlobalName name = IsTrue (is_name name) × (length name ≤ LONGEST_NAME)

abbrev pub IsRegion : Region → Type 0
IsRegion r = IsSiteName r.name

-- so many regions of their form
pub record AreRegions (n : ℕ) (regions : List Region) : Type 0 where
  pub many : length regions ≡ n
  pub each : AllByRecursion IsRegion regions
