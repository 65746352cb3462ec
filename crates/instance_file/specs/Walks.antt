-- What reading a whole instance file gives.
use Rattle.std.specs.Prelude.{◌≡◌, ℕ, ◌-◌, ◌^◌, min, true, List, [], ◌∷◌, ◌++◌, length, slice_get, Option, Some, None, if◌then◌else◌}
use Rattle.std.specs.List.{AllZip, list_all}
use Rattle.disk_defs.specs.Gates.{Body, records}
use Rattle.gated_file.specs.State.{places}
use Rattle.global_defs.specs.Entry.{Reign}
use Rattle.global_defs.specs.Rising.{StartsRise}
use Rattle.journal_defs.specs.Instance.{InstanceRecord, Create, Reigned, Cut, Map, Mode, IsInstanceBody}
use Rattle.journal_defs.specs.Surviving.{spares_start, reigns}
use Rattle.site_defs.specs.OutsideInstance.{AreOrdered, left_by}

-- the reign that the record is, where it survives those behind
abbrev pub surviving_in : List InstanceRecord → InstanceRecord → Option Reign
surviving_in later (Reigned r) = if list_all (spares_start r.start) later then Some r else None
surviving_in later (Create name regions) = None
surviving_in later (Cut n g) = None
surviving_in later (Map region star name) = None
surviving_in later (Mode region before) = None

-- the greatest start that the record and those behind it leave, where those behind leave the starts up to the one given
abbrev pub bound_with : InstanceRecord → ℕ → ℕ
bound_with (Cut n g) later = min n later
bound_with (Create name regions) later = later
bound_with (Reigned r) later = later
bound_with (Map region star name) later = later
bound_with (Mode region before) later = later

-- the greatest start of 64 bits that these records leave
abbrev pub bound : List InstanceRecord → ℕ
bound [] = 2 ^ 64 - 1
bound (r ∷ rs) = bound_with r (bound rs)

-- for each record the greatest start that those behind it leave
abbrev pub bounds_behind : List InstanceRecord → List ℕ
bounds_behind [] = []
bounds_behind (r ∷ rs) = bound rs ∷ bounds_behind rs

-- the file's bodies are those of these records in their order, and their gates stand at these places
pub record IsListed (file : List ℕ) (rs : List InstanceRecord) (at : List ℕ) : Type 0 where
  pub bodies : List Body
  pub list : records file ≡ Some bodies
  pub spelled : AllZip IsInstanceBody bodies rs
  pub places : at ≡ places 0 bodies
  pub ordered : AreOrdered rs

-- among the reigns that survive these records the one at this place is the first that doesn't begin past the one before it
pub record IsWrongReign (rs : List InstanceRecord) (at : List ℕ) (offset : ℕ) : Type 0 where
  pub earlier : List InstanceRecord
  pub reign : Reign
  pub later : List InstanceRecord
  pub is : rs ≡ earlier ++ Reigned reign ∷ later
  pub place : slice_get at (length earlier) ≡ Some offset
  pub survives : list_all (spares_start reign.start) later ≡ true
  pub rising : StartsRise 0 (left_by later (reigns earlier))
  pub falls : StartsRise 0 (left_by later (reigns earlier) ++ reign ∷ []) → ⊥
