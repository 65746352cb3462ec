-- The regions of a site, as they are read one after another.
use Rattle.std.specs.Prelude.{ℕ, ◌<◌, ◌≤◌, List, length}
use Rattle.std.specs.List.{AllByRecursion}
use Rattle.global_defs.specs.declared.limits.TheConstants.{MOST_REGIONS}
use Rattle.disk_defs.specs.Disk.{Files, View, IsDurable}
use Rattle.journal_defs.specs.Numbers.{journal_file}
use Rattle.journal_defs.specs.Directory.{Pattern, patterns}
use Rattle.journal_defs.specs.Instance.{regions}
use Rattle.journal_defs.specs.Sequence.{Placed, Records}
use Rattle.journal_defs.specs.Stands.{AreRecords}
use Rattle.jnl_file.specs.Generations.{AreDurable}
use Rattle.entry_index.specs.declared.placed.PlacedSign.{PlacedSign}
use Rattle.entry_index.specs.Among.{AreAllInOrder}
use Rattle.entry_index.specs.Indexes.{AreSigns}
use Rattle.site_defs.specs.Outside.{HaveJournals}

-- The first so many regions have records over the generations up to g, and these are their signs, with the records' places.
pub record HaveSigns (regions g : ℕ) (last : ℕ → ℕ) (signs : List (List PlacedSign)) (files : Files) : Type 0 where
  pub journal : ℕ → List Placed
  pub have : HaveJournals regions g last journal files
  pub are : AreSigns files signs journal
  pub ordered : AreAllInOrder signs journal

-- the files of the first so many regions up to generation g are on the disk for good
abbrev pub AreAllDurable : View → ℕ → ℕ → Files → Type 0
AreAllDurable v regions g files = (r : ℕ) → r < regions → AreDurable v r g files

-- those of generation g are on the disk for good
abbrev pub AreUnbegunDurable : View → ℕ → ℕ → Files → Type 0
AreUnbegunDurable v regions g files = (r : ℕ) → r < regions → IsDurable v (journal_file g r) (files (journal_file g r))

-- the files hold no records of one to eight regions with each MAP to one of them
abbrev pub HoldNoSite : Files → Type 0
HoldNoSite files = (s : Records) → AreRecords files s → 1 ≤ length (regions s.instance) → length (regions s.instance) ≤ MOST_REGIONS
    → AllByRecursion (λ (p : Pattern). p.region < length (regions s.instance)) (patterns s.instance) → ⊥
