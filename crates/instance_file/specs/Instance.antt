-- An instance file on a disk.
use Rattle.std.specs.Prelude.{◌≡◌, ◌⊎◌, ℕ, List, [], ◌∷◌, ◌++◌, IfSome, IsSomeAnd}
use Rattle.std.specs.List.{AllZip}
use Rattle.disk_defs.specs.Disk.{Files, View, Image, From, OnFile}
use Rattle.disk_defs.specs.Gates.{Body, records}
use Rattle.gated_file.specs.State.{settled}
use Rattle.gated_file.specs.Gated as gates
use Rattle.journal_defs.specs.Numbers.{INSTANCE}
use Rattle.journal_defs.specs.Instance.{InstanceRecord, IsInstanceBody}
use Rattle.journal_defs.specs.Stands.{IsInstance}
use Rattle.instance_file.specs.declared.instance.Instance.{Instance}

-- the file as it reads and in each image
pub record HoldsRecords (v : View) (i : Instance) (rs : List InstanceRecord) (files : Files) : Type 0 where
  -- what it stands for: these records, which are those of the value
  pub kept : i.records ≡ rs
  pub reads : IsInstance (files INSTANCE) rs
  pub stands : (c : Files) → Image v c → IsInstance (c INSTANCE) rs
  -- its bodies
  pub file : i.gated.file ≡ INSTANCE
  pub bodies : List Body
  pub held : gates.Holds v i.gated (settled bodies) files
  pub spelled : AllZip IsInstanceBody bodies rs

-- The disk tells its files, and the instance file has these records, all of them on the disk.
abbrev pub HasRecords : View → Instance → List InstanceRecord → Type 0
HasRecords v i rs = IsSomeAnd v.content (HoldsRecords v i rs)

-- The instance file is open for calls: it has the value's records, where the disk tells it, and its gated file is open for calls.
pub record IsReady (v : View) (i : Instance) : Type 0 where
  pub file : i.gated.file ≡ INSTANCE
  pub gated : gates.IsReady v i.gated
  pub state : IfSome v.content (HoldsRecords v i i.records)

-- the file has these records, or this one more
abbrev pub StandsWith : List InstanceRecord → InstanceRecord → List ℕ → Type 0
StandsWith rs r file = IsInstance file rs ⊎ IsInstance file (rs ++ r ∷ [])

-- An image from before the call, in which the instance file may have other bytes that stand for the same records, or for none, or for this one alone.
abbrev pub MayCreate : View → InstanceRecord → Files → Type 0
MayCreate old first = From (Image old) (OnFile INSTANCE (λ was now. (records now ≡ records was) ⊎ StandsWith [] first now))
