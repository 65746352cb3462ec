-- All regions of a site written out, one after another.
use Rattle.std.specs.Prelude.{◌≡◌, ◌<◌, ℕ, Bool, false, List, length, map, replicate, slice_get, Some}
use Rattle.std.specs.List.{AllByRecursion}
use Rattle.disk_defs.specs.Disk.{Files}
use Rattle.disk_defs.specs.Frames.{SameOutside}
use Rattle.journal_defs.specs.Numbers.{database_file}
use Rattle.journal_defs.specs.Journal as journal
use Rattle.journal_defs.specs.Journal.{JournalRecord, Mark}
use Rattle.journal_defs.specs.Epochs.{image_state, block_of}
use Rattle.journal_defs.specs.Sound.{Restores}
use Rattle.journal_defs.specs.Undo.{fresh}
use Rattle.jnl_record.specs.declared.record.JnlRecord.{JnlRecord}
use Rattle.jnl_record.specs.Values.{record_value}
use Rattle.region_store.specs.Region.{AreLogged, IsCutShort}
use Rattle.region_journals.specs.Journals.{listed}
use Rattle.region_journals.specs.Logging.{MayBeAppended}
use Rattle.region_store.specs.Joined.{Joined, region_at}
use Rattle.region_epochs.specs.declared.flushing.Flushed.{Flushed}
use Rattle.region_epochs.specs.Files.{IsDatabaseFile}
use Rattle.region_epochs.specs.Taken.{mark_of}

-- each region is held by its own database file, and its changed blocks may be written
pub record AreWritable (j : Joined) : Type 0 where
  pub files : (r : ℕ) → r < length j.regions → (region_at j r).file ≡ database_file r
  pub logged : (r : ℕ) → r < length j.regions → AreLogged (region_at j r)

-- Of each region an EPOCH of all its blocks, and marks of no image.
pub record AreEpochs (closing : Bool) (number : ℕ) (j : Joined) (made : Flushed) : Type 0 where
  pub as_many_epochs : length made.epochs.items ≡ length j.regions
  pub as_many_images : length made.images.items ≡ length j.regions
  pub may_be : AllByRecursion MayBeAppended made.epochs.items
  pub epoch : (r : ℕ) (what : JnlRecord) → slice_get made.epochs.items r ≡ Some what → record_value what ≡ journal.Epoch (mark_of closing number j r)
  pub none : (r : ℕ) (images : List Bool) → slice_get made.images.items r ≡ Some images → images ≡ replicate (length (region_at j r).pool.leaves) false

-- The files hold each region's globals in the blocks below an EPOCH of all of them.
pub record AreRestored (j : Joined) (files : Files) : Type 0 where
  pub each : (r : ℕ) (m : Mark) → r < length j.regions → m.blocks ≡ length (region_at j r).pool.leaves → Restores (image_state (fresh m) (block_of (files (database_file r)))) (region_at j r).globals

-- At most blocks that may be written have changed in the regions' files, and nothing in any other.
pub record AreCutShort (j : Joined) (old new : Files) : Type 0 where
  pub each : (r : ℕ) → r < length j.regions → IsCutShort (region_at j r) (old (database_file r)) (new (database_file r))
  pub others : SameOutside (IsDatabaseFile (length j.regions)) old new

-- the record of each region, as what waits in its journal
abbrev pub one_each : List JnlRecord → ℕ → List JournalRecord
one_each records r = listed (slice_get (map record_value records) r)
