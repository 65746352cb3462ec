-- What an epoch of all regions leaves.
use Rattle.std.specs.Prelude.{◌≡◌, ◌<◌, ◌++◌, ◌∷◌, [], ℕ, suc, Bool, List, length}
use Rattle.disk_defs.specs.Disk.{View}
use Rattle.global_defs.specs.Entry.{Sequence}
use Rattle.journal_defs.specs.Journal.{JournalRecord, Epoch, Mark, Before}
use Rattle.journal_defs.specs.Instance.{regions}
use Rattle.journal_defs.specs.Sequence.{Records}
use Rattle.journal_defs.specs.Epochs.{chosen}
use Rattle.journal_defs.specs.Undo.{fresh}
use Rattle.region_store.specs.Region.{IsFlushed}
use Rattle.region_journals.specs.declared.journals.RegionJournal.{RegionJournal}
use Rattle.region_store.specs.Joined.{Joined, region_at, parts_in}
use Rattle.region_epochs.specs.Kept.{IsKept, HasMore, image_records}

-- The regions have the same nodes in the same files.
pub record HasSameNodes (old new : Joined) : Type 0 where
  pub patterns : new.patterns ≡ old.patterns
  pub count : length new.regions ≡ length old.regions
  pub parts : parts_in new.regions ≡ parts_in old.regions
  pub files : (r : ℕ) → (region_at new r).file ≡ (region_at old r).file

-- the EPOCH of a region for so many entries
abbrev pub mark_of : Bool → ℕ → Joined → ℕ → Mark
mark_of closing number j r = record { closing = closing; number = number; blocks = length (region_at j r).pool.leaves }

-- The site is kept by records with images more.
pub record IsImaged (v : View) (s : Records) (seq : Sequence) (g : ℕ) (newer : ℕ → List JournalRecord) (js : List RegionJournal) (j : Joined) : Type 0 where
  pub records : Records
  pub more : HasMore (length seq) (suc g) s records
  pub images : (r : ℕ) → (is : List Before) × (more.more r ≡ image_records is)
  pub kept : IsKept v records seq g (λ r. newer r ++ more.more r) js j

-- The site is kept by records with images and then an EPOCH of the sequence's length more in each region. That is the epoch which is
-- chosen, and no block has changed since.
pub record IsTaken (v : View) (closing : Bool) (s : Records) (seq : Sequence) (g : ℕ) (newer : ℕ → List JournalRecord) (js : List RegionJournal) (j : Joined) : Type 0 where
  pub records : Records
  pub more : HasMore (length seq) (suc g) s records
  pub kept : IsKept v records seq g (λ r. newer r ++ more.more r) js j
  pub ends : (r : ℕ) → r < length (regions s.instance) → (is : List Before) × (more.more r ≡ image_records is ++ Epoch (mark_of closing (length seq) j r) ∷ [])
  pub chosen_each : (r : ℕ) → r < length (regions s.instance) → chosen s.instance (length seq) (records.journal r) ≡ fresh (mark_of closing (length seq) j r)
  pub flushed_each : (r : ℕ) → r < length (regions s.instance) → IsFlushed (region_at j r)
