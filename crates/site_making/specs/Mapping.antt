-- What a pattern leaves of a disk, and where an instance file takes none.
use Rattle.std.specs.Prelude.{◌≡◌, ◌<◌, List, length, ◌⊎◌, ℕ}
use Rattle.disk_defs.specs.Disk.{View, Files, Image, From}
use Rattle.journal_defs.specs.Numbers.{INSTANCE}
use Rattle.journal_defs.specs.Stands.{IsInstance}
use Rattle.journal_defs.specs.Instance.{InstanceRecord, generation, regions}
use Rattle.site_defs.specs.Contents.{Contents}
use Rattle.site_defs.specs.Opening.{with_pattern}
use Rattle.site_defs.specs.Stands.{IsSite, Stands}

-- an image from before the call, whose site may have the pattern
abbrev pub MayHavePattern : View → ℕ → List ℕ → Files → Type 0
MayHavePattern old region text = From (Image old) (λ was now. (c : Contents) → Stands was c → Stands now c ⊎ IsSite now (with_pattern region text c))

-- the instance file's records have no such region, or a generation was drawn; the place is its beginning
abbrev pub TakesNoPattern : Files → (region : ℕ) → ℕ → ℕ → Type 0
TakesNoPattern files region file offset =
    (rs : List InstanceRecord) × IsInstance (files INSTANCE) rs × ((region < length (regions rs)) × (generation rs ≡ 0) → ⊥) × (file ≡ INSTANCE) × (offset ≡ 0)
