-- Setting the mode of a region, of a site that is down.
use Rattle.std.specs.Prelude.{◌≡◌, ◌⊎◌, ◌≤◌, ℕ, Bool, List, length}
use Rattle.disk_defs.specs.Disk.{Files, View, Image, From}
use Rattle.journal_defs.specs.Numbers.{INSTANCE}
use Rattle.journal_defs.specs.Instance.{InstanceRecord, regions}
use Rattle.journal_defs.specs.Stands.{IsInstance}
use Rattle.site_defs.specs.Contents.{Contents, Standing}
use Rattle.site_defs.specs.Opening.{with_mode}
use Rattle.site_defs.specs.Stands.{IsSite}
use Rattle.site_defs.specs.Behind.{IsStanding}
use Rattle.site_store.specs.Needing.{NoneNeeds}

-- what lies behind the contents stays
abbrev pub with_mode_left : ℕ → Bool → Standing → Standing
with_mode_left region before s = record { contents = with_mode region before s.contents; broken = s.broken }

-- the same contents, or with the record
abbrev pub MayHaveMode : ℕ → Bool → Contents → Contents → Type 0
MayHaveMode region before c o = (o ≡ c) ⊎ (o ≡ with_mode region before c)

-- and with what lies behind them
abbrev pub MayHaveModeLeft : ℕ → Bool → Standing → Standing → Type 0
MayHaveModeLeft region before s o = (o ≡ s) ⊎ (o ≡ with_mode_left region before s)

-- an image from before the call, whose site may have the mode
abbrev pub MayBeSet : View → ℕ → Bool → Files → Type 0
MayBeSet old region before = From (Image old) (λ was now. (c : Contents) → IsSite was c → (o : Contents) × MayHaveMode region before c o × IsSite now o)

-- and with what was broken in that image
abbrev pub MayBeSetWith : View → ℕ → Bool → Files → Type 0
MayBeSetWith old region before = From (Image old) (λ was now. (s : Standing) → IsStanding was s → (o : Standing) × MayHaveModeLeft region before s o × IsStanding now o)

-- an image from before the call, whose site has the mode
abbrev pub IsSetIn : View → ℕ → Bool → Files → Type 0
IsSetIn old region before = From (Image old) (λ was now. (s : Standing) → IsStanding was s → IsStanding now (with_mode_left region before s))

-- where no region needed forward recovery for so many entries, none does
abbrev pub StillNoneNeeds : Files → Files → Type 0
StillNoneNeeds was now = (n : ℕ) → NoneNeeds n was → NoneNeeds n now

-- the instance file's records have no such region; the place is its beginning
abbrev pub HasNoRegion : Files → (region : ℕ) → ℕ → ℕ → Type 0
HasNoRegion files region file offset = (rs : List InstanceRecord) × IsInstance (files INSTANCE) rs × (length (regions rs) ≤ region) × (file ≡ INSTANCE) × (offset ≡ 0)
