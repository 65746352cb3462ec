-- What lies outside the files of a site, and where.
use Rattle.std.specs.Prelude.{◌≡◌, ◌⊎◌, ℕ, suc, ◌<◌, ◌≤◌, List, [], length, Some}
use Rattle.std.specs.List.{AllByRecursion}
use Rattle.global_defs.specs.declared.limits.TheConstants.{MOST_REGIONS}
use Rattle.disk_defs.specs.Disk.{Files}
use Rattle.disk_defs.specs.Gates.{records}
use Rattle.journal_defs.specs.Numbers.{INSTANCE, journal_file}
use Rattle.journal_defs.specs.Instance.{InstanceRecord, generation, regions}
use Rattle.journal_defs.specs.Directory.{Pattern, patterns}
use Rattle.journal_defs.specs.Sequence.{Placed}
use Rattle.journal_defs.specs.Stands.{IsInstance, IsJournal}
use Rattle.site_defs.specs.OutsideInstance.{IsOutsideInstance}
use Rattle.site_defs.specs.OutsideJournal.{IsOutsideGenerations}

-- these records have one to eight regions, and each MAP is to one of them
abbrev pub HaveDirectory : List InstanceRecord → Type 0
HaveDirectory rs = (1 ≤ length (regions rs)) × (length (regions rs) ≤ MOST_REGIONS) × AllByRecursion (λ (p : Pattern). p.region < length (regions rs)) (patterns rs)

-- the first so many regions have these records over the generations up to g
abbrev pub HaveJournals : ℕ → ℕ → (last : ℕ → ℕ) → (journal : ℕ → List Placed) → Files → Type 0
HaveJournals regions g last journal files = (r : ℕ) → r < regions → IsJournal files r g (last r) (journal r)

-- generation g has no open record in them
abbrev pub AreUnbegun : ℕ → ℕ → Files → Type 0
AreUnbegun regions g files = (r : ℕ) → r < regions → records (files (journal_file g r)) ≡ Some []

-- the instance file isn't one, by what stands at this place
abbrev pub IsNoInstance : Files → ℕ → ℕ → Type 0
IsNoInstance files file offset = (file ≡ INSTANCE) × IsOutsideInstance (files INSTANCE) offset

-- it has no records of one to eight regions with each MAP to one of them; the place is its beginning
abbrev pub HasNoDirectory : Files → ℕ → ℕ → Type 0
HasNoDirectory files file offset = (rs : List InstanceRecord) × IsInstance (files INSTANCE) rs × (HaveDirectory rs → ⊥) × (file ≡ INSTANCE) × (offset ≡ 0)

-- The first of so many regions whose journals up to a generation aren't its journals: the first such journal, by what stands at this place.
pub record AreOutside (files : Files) (regions last file offset : ℕ) : Type 0 where
  pub region : ℕ
  pub below : region < regions
  pub began : ℕ → ℕ
  pub journal : ℕ → List Placed
  pub earlier : HaveJournals region last began journal files
  pub outside : IsOutsideGenerations files region last file offset

-- The first of so many regions in whose journal of a generation that isn't drawn there is an open record, or no gate of the format: the place
-- is its beginning.
pub record HaveBegun (files : Files) (regions generation file offset : ℕ) : Type 0 where
  pub region : ℕ
  pub below : region < regions
  pub earlier : AreUnbegun region generation files
  pub begun : records (files (journal_file generation region)) ≡ Some [] → ⊥
  pub file_is : file ≡ journal_file generation region
  pub offset_is : offset ≡ 0

-- the files hold no site's records, by what stands at this place of this file
abbrev pub IsOutsideRecords : Files → ℕ → ℕ → Type 0
IsOutsideRecords files file offset =
    IsNoInstance files file offset ⊎ HasNoDirectory files file offset
    ⊎ ((rs : List InstanceRecord) × IsInstance (files INSTANCE) rs × AreOutside files (length (regions rs)) (generation rs) file offset)

-- or the next generation has begun already
abbrev pub IsOutsideSite : Files → ℕ → ℕ → Type 0
IsOutsideSite files file offset =
    IsOutsideRecords files file offset
    ⊎ ((rs : List InstanceRecord) × IsInstance (files INSTANCE) rs × HaveBegun files (length (regions rs)) (suc (generation rs)) file offset)

-- or the generation behind that one has
abbrev pub IsBegunAhead : Files → ℕ → ℕ → Type 0
IsBegunAhead files file offset = (rs : List InstanceRecord) × IsInstance (files INSTANCE) rs × HaveBegun files (length (regions rs)) (suc (suc (generation rs))) file offset
