-- Which records may follow one another.
use Rattle.std.specs.Prelude.{◌≡◌, ℕ, ◌<◌, Bool, false, IsTrue, List}
use Rattle.global_defs.specs.Rising.{StartsRise}
use Rattle.journal_defs.specs.Instance.{InstanceRecord, Create, Reigned, Cut, Map, Mode}
use Rattle.journal_defs.specs.Surviving.{reigns}
use Rattle.site_defs.specs.OutsideInstance.{AreOrdered}

-- the records are in their order, and the surviving reigns have rising starts
pub record AreInOrder (rs : List InstanceRecord) : Type 0 where
  pub ordered : AreOrdered rs
  pub reigns : StartsRise 0 (reigns rs)

-- the record may stand first, or behind records whose last CUT has this generation
abbrev pub MayStand : Bool → ℕ → InstanceRecord → Type 0
MayStand is_first last (Create name regions) = IsTrue is_first
MayStand is_first last (Reigned r) = is_first ≡ false
MayStand is_first last (Cut n g) = (is_first ≡ false) × (last < g)
MayStand is_first last (Map region star name) = is_first ≡ false
MayStand is_first last (Mode region before) = is_first ≡ false

-- the generation of the last CUT behind one more record
abbrev pub last_after : ℕ → InstanceRecord → ℕ
last_after last (Cut n g) = g
last_after last (Create name regions) = last
last_after last (Reigned r) = last
last_after last (Map region star name) = last
last_after last (Mode region before) = last
