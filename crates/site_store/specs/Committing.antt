-- Entries on their way into the journals.
use Rattle.std.specs.Prelude.{◌≡◌, ◌+◌, ◌<◌, ◌≤◌, ℕ, Bool, true, List, ◌++◌, length, take, fold, Option, Some, None, slice_get, get_or}
use Rattle.global_defs.specs.declared.limits.TheConstants.{MOST_REGIONS}
use Rattle.global_defs.specs.Entry.{Update, Transaction, apply}
use Rattle.gvn_model.specs.declared.entry.Transaction as code_transaction
use Rattle.disk_defs.specs.Disk.{View, AtEachMoment}
use Rattle.journal_defs.specs.Journal.{JournalRecord, Part, Before}
use Rattle.journal_defs.specs.Instance.{generation, regions}
use Rattle.journal_defs.specs.Split.{split, mask_of, IsSplit}
use Rattle.journal_defs.specs.Fit.{region_of_update}
use Rattle.tp_commit.specs.Parts.{PartRecords, recorded}
use Rattle.region_journals.specs.Fronts.{IsNewestFile}
use Rattle.region_journals.specs.Journals.{KeepsJournals, part_in, listed}
use Rattle.region_store.specs.Joined.{joined, AreChanged}
use Rattle.site_store.specs.declared.memory.Memory.{Memory}
use Rattle.site_store.specs.Site.{count_of, IsReady, IsOpen}
use Rattle.site_defs.specs.Contents.{Contents, NO_LEFTOVER}
use Rattle.site_defs.specs.Fronts.{with_sequence}
use Rattle.site_defs.specs.Stands.{IsSite, HasLeft}
use Rattle.region_epochs.specs.Kept.{image_records}
use Rattle.region_epochs.specs.Taken.{HasSameNodes}
use Rattle.entry_index.specs.declared.index.EntryIndex.{EntryIndex}
use Rattle.entry_index.specs.declared.place.PartPlace.{PartPlace}
use Rattle.entry_index.specs.Parts.{NOWHERE}
use Rattle.region_journals.specs.declared.journals.RegionJournal.{RegionJournal}

-- where a region's part of the next entry stands: behind all that its newest journal has; nowhere where it has no part
abbrev pub place_behind : Option JournalRecord → Option RegionJournal → PartPlace
place_behind None x = NOWHERE
place_behind (Some part) None = NOWHERE
place_behind (Some part) (Some x) = record { generation = x.journal.generation; offset = x.journal.gated.end }

abbrev pub next_place : PartRecords → List RegionJournal → ℕ → PartPlace
next_place parts js r = place_behind (part_in parts r) (slice_get js r)

-- an index with one row more: the places of these parts behind these journals
pub record AddsPlaces (parts : PartRecords) (js : List RegionJournal) (old new : EntryIndex) : Type 0 where
  pub row : List PartPlace
  pub places : new.places.items ≡ old.places.items ++ row
  pub regions : new.regions ≡ old.regions
  pub count : length row ≡ old.regions
  pub each : (r : ℕ) → r < old.regions → get_or row r NOWHERE ≡ next_place parts js r

-- an index with the same places, though there may be more room
pub record IsSameIndex (old new : EntryIndex) : Type 0 where
  pub regions : new.regions ≡ old.regions
  pub places : new.places.items ≡ old.places.items

-- the places behind all that its journals had are in the index, and its updates are made
pub record Enters (old new : Memory) (t : code_transaction.Transaction) (parts : PartRecords) : Type 0 where
  pub places : AddsPlaces parts old.journals.journals.items old.entries new.entries
  pub globals : joined new.globals ≡ fold apply (joined old.globals) t.updates
  pub changed : AreChanged old.globals new.globals

-- what doesn't change when an entry comes
pub record IsSameSite (old new : Memory) : Type 0 where
  pub instance : new.instance ≡ old.instance
  pub layout : new.layout ≡ old.layout
  pub hardened : new.hardened ≡ old.hardened
  pub stamp : new.stamp ≡ old.stamp

-- and when none comes
pub record IsSameMemory (old new : Memory) : Type 0 where
  pub same : IsSameSite old new
  pub entries : IsSameIndex old.entries new.entries
  pub globals : joined new.globals ≡ joined old.globals
  -- though there may be more room, and more blocks may have images
  pub nodes : HasSameNodes old.globals new.globals

-- the file of one of a site's newest journals
abbrev pub IsOwnJournal : Memory → ℕ → Type 0
IsOwnJournal s = IsNewestFile (generation s.instance.records) (length (regions s.instance.records))

-- the region of an update, by a site's directory
abbrev pub region_by : Memory → Update → ℕ
region_by s = region_of_update s.layout.directory.patterns

-- the parts of a transaction as the next entry of a site
abbrev pub parts_of : Memory → Transaction → ℕ → Option Part
parts_of s t = split (region_by s) (count_of s + 1) (mask_of (region_by s) t.updates) t

-- These are the records of those parts, each in its region.
pub record ArePartsOf (s : Memory) (t : Transaction) (parts : PartRecords) : Type 0 where
  pub each : (r : ℕ) → r < MOST_REGIONS → part_in parts r ≡ recorded (parts_of s t r)
  pub is_split : IsSplit (region_by s) (mask_of (region_by s) t.updates) t
  pub no_other : (r : ℕ) → s.layout.directory.regions ≤ r → parts_of s t r ≡ None

-- Behind what waits in each region stands exactly the record of its part of the transaction, and nothing more where it has none.
abbrev pub AppendsPart : View → View → Memory → Memory → Transaction → Type 0
AppendsPart u v old new t = (hard waiting : ℕ → List JournalRecord) → KeepsJournals u hard waiting old.journals.journals.items
    → KeepsJournals v hard (λ r. waiting r ++ listed (recorded (parts_of old t r))) new.journals.journals.items

-- The same, behind images of the region's blocks.
abbrev pub Appends : View → View → Memory → Memory → Transaction → Type 0
Appends u v old new t = (hard waiting : ℕ → List JournalRecord) → KeepsJournals u hard waiting old.journals.journals.items
    → (images : ℕ → List Before) × KeepsJournals v hard (λ r. waiting r ++ (image_records (images r) ++ listed (recorded (parts_of old t r)))) new.journals.journals.items

-- its entries and its nodes are as they were
pub record HasSameState (old new : Memory) : Type 0 where
  pub entries : new.entries ≡ old.entries
  pub globals : joined new.globals ≡ joined old.globals

-- Images of blocks wait besides, and nothing else is new of a site.
pub record HasLogged (u v : View) (old new : Memory) : Type 0 where
  pub ready : IsReady v new
  pub same : IsSameSite old new
  pub entries : new.entries ≡ old.entries
  pub globals : joined new.globals ≡ joined old.globals
  pub nodes : HasSameNodes old.globals new.globals
  pub waits : (hard waiting : ℕ → List JournalRecord) → KeepsJournals u hard waiting old.journals.journals.items
      → (images : ℕ → List Before) × KeepsJournals v hard (λ r. waiting r ++ image_records (images r)) new.journals.journals.items
  pub stays_open : (told : Bool) (c : Contents) (h : ℕ) → IsOpen u told c h old → IsOpen v told c h new

-- At each moment of a call that logs images the files stand for the hardened entries, and nothing lies behind them.
pub record AreLoggingMoments (u v : View) (old : Memory) : Type 0 where
  pub any_moment : (c : Contents) (h : ℕ) → IsOpen u true c h old → AtEachMoment u v (λ f. IsSite f (with_sequence c (take h c.sequence)))
  pub bare : (c : Contents) (h : ℕ) → IsOpen u true c h old → AtEachMoment u v (λ f. HasLeft f (with_sequence c (take h c.sequence)) NO_LEFTOVER)
