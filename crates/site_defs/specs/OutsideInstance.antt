-- What lies outside the format of instance files, and where.
use Rattle.std.specs.Prelude.{◌≡◌, ◌⊎◌, ℕ, true, List, [], ◌∷◌, ◌++◌, length, filter, Some}
use Rattle.std.specs.List.{AllZip, list_all}
use Rattle.disk_defs.specs.Gates.{Body, records, spelled}
use Rattle.global_defs.specs.Entry.{Reign}
use Rattle.global_defs.specs.Rising.{StartsRise}
use Rattle.journal_defs.specs.Instance.{InstanceRecord, Reigned, IsInstanceBody, BeginsWithCreate, CutsRise}
use Rattle.journal_defs.specs.Surviving.{spares_start, reigns}
use Rattle.disk_defs.specs.OutsideGates.{IsOutside}

-- CREATE is the first record and no other one is, and the generations of CUT records rise
pub record AreOrdered (rs : List InstanceRecord) : Type 0 where
  pub create : BeginsWithCreate rs
  pub cuts : CutsRise 0 rs

-- The body at this place is the first that belongs to no record or to one that can't follow those before it: to a first one that
-- isn't CREATE, a later CREATE, or a CUT whose generation isn't past that of every CUT before it.
pub record HasWrongRecord (file : List ℕ) (offset : ℕ) : Type 0 where
  pub before : List Body
  pub body : Body
  pub after : List Body
  pub list : records file ≡ Some (before ++ body ∷ after)
  pub place : offset ≡ length (spelled 1 before)
  pub earlier : List InstanceRecord
  pub spelled_before : AllZip IsInstanceBody before earlier
  pub so_far : AreOrdered earlier
  pub wrong : (r : InstanceRecord) → IsInstanceBody body r → AreOrdered (earlier ++ r ∷ []) → ⊥

-- those of the reigns that survive these records
abbrev pub left_by : List InstanceRecord → List Reign → List Reign
left_by later rs = filter (λ r. list_all (spares_start r.start) later) rs

-- The bodies are those of records in their order, and among the reigns that survive at the file's end the one at this place is the
-- first that doesn't begin past the one before it.
pub record HasWrongReign (file : List ℕ) (offset : ℕ) : Type 0 where
  pub bodies : List Body
  pub list : records file ≡ Some bodies
  pub earlier : List InstanceRecord
  pub reign : Reign
  pub later : List InstanceRecord
  pub spelled_all : AllZip IsInstanceBody bodies (earlier ++ Reigned reign ∷ later)
  pub ordered : AreOrdered (earlier ++ Reigned reign ∷ later)
  pub place : (before : List Body) → AllZip IsInstanceBody before earlier → offset ≡ length (spelled 1 before)
  pub survives : list_all (spares_start reign.start) later ≡ true
  pub rising : StartsRise 0 (left_by later (reigns earlier))
  pub falls : StartsRise 0 (left_by later (reigns earlier) ++ reign ∷ []) → ⊥

-- at this place is no gate of the format, a wrong record or a wrong reign
abbrev pub IsOutsideInstance : List ℕ → ℕ → Type 0
IsOutsideInstance file offset = IsOutside file offset ⊎ HasWrongRecord file offset ⊎ HasWrongReign file offset
