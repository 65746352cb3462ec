-- What stands of a region that is opened, and why one isn't.
use Rattle.std.specs.Prelude.{◌≡◌, ◌⊎◌, ℕ, ◌*◌, ◌<◌, ◌≤◌, ◌==◌, Bool, true, List, [], take, Option}
use Rattle.std.specs.List.{AllByRecursion, list_all}
use Rattle.std.specs.FinMap as globals
use Rattle.global_defs.specs.declared.limits.TheConstants.{BLOCK}
use Rattle.disk_defs.specs.Disk.{Files}
use Rattle.global_defs.specs.Entry.{Globals, Sequence}
use Rattle.global_defs.specs.Fields.{IsTransaction}
use Rattle.journal_defs.specs.Numbers.{database_file}
use Rattle.journal_defs.specs.Instance.{InstanceRecord}
use Rattle.journal_defs.specs.Directory.{Pattern, region_of, patterns}
use Rattle.journal_defs.specs.Surviving.{reigns}
use Rattle.journal_defs.specs.Sequence.{Placed}
use Rattle.journal_defs.specs.Epochs.{Chosen, beginning, chosen, image_state, block_of, NeedsForward}
use Rattle.journal_defs.specs.Sound.{IsSound, region_state}
use Rattle.region_store.specs.Region.{Standing, HoldsRegion}
use Rattle.site_defs.specs.OutsideBlocks.{IsOutsideAt, AreOutside}
use Rattle.entry_index.specs.declared.placed.PlacedSign.{PlacedSign}
use Rattle.entry_index.specs.declared.index.EntryIndex.{EntryIndex}
use Rattle.entry_index.specs.Indexes.{AreSigns, Indexes}
use Rattle.entry_index.specs.Parts.{InFiles}

-- the place in the journals from which a region is opened
pub data IsStart (instance : List InstanceRecord) (t : ℕ) (journal : List Placed) (e : Chosen) : Type 0 where
  -- the region needs forward recovery: the empty database with no record behind it
  Anew : NeedsForward instance t journal → e ≡ beginning [] → IsStart instance t journal e
  -- the epoch to which it goes back
  GoesBack : (NeedsForward instance t journal → ⊥) → e ≡ chosen instance t journal → IsStart instance t journal e

-- each of these nodes stands in the region of its name
abbrev pub are_home : List Pattern → ℕ → Globals → Bool
are_home ps r g = list_all (λ e. region_of ps e.0.name == r) (globals.entries g)

-- What holds of a region that was opened for the first t entries of a sequence, whatever the files hold.
pub record IsOwn (ps : List Pattern) (t r : ℕ) (s : Standing) : Type 0 where
  pub file : s.file ≡ database_file r
  pub home : are_home ps r s.globals ≡ true
  pub none : t ≡ 0 → s.globals ≡ globals.empty

-- What holds of a region that stands as it did at the first n entries, to be opened for t, whatever the files hold.
pub record IsBegun (ps : List Pattern) (t n r : ℕ) (s : Standing) : Type 0 where
  pub file : s.file ≡ database_file r
  pub home : are_home ps r s.globals ≡ true
  pub within : n ≤ t
  pub none : n ≡ 0 → s.globals ≡ globals.empty

-- the blocks of a region below the epoch that it goes back to
abbrev pub blocks_of : List InstanceRecord → ℕ → List Placed → ℕ → Files → ℕ → Option (List ℕ)
blocks_of instance t journal r files = image_state (chosen instance t journal) (block_of (files (database_file r)))

-- the region needs forward recovery, or no block of it is outside the format
abbrev pub IsInside : List InstanceRecord → ℕ → List Placed → ℕ → Files → Type 0
IsInside instance t journal r files = NeedsForward instance t journal ⊎ ((b : ℕ) → IsOutsideAt (blocks_of instance t journal r files) b → ⊥)

-- the region needs forward recovery, or its blocks are those of the epoch to which it goes back and the file
abbrev pub IsHeldFrom : List InstanceRecord → ℕ → List Placed → ℕ → Standing → Files → Type 0
IsHeldFrom instance t journal r s files = NeedsForward instance t journal ⊎ HoldsRegion (chosen instance t journal) (files (database_file r)) s

-- What such a region is against the files and its records.
pub record IsGoneBack (instance : List InstanceRecord) (t n : ℕ) (journal : List Placed) (r : ℕ) (s : Standing) (files : Files) : Type 0 where
  pub holds : IsHeldFrom instance t journal r s files
  pub inside : IsInside instance t journal r files
  -- where the region is sound for t it has its part of the state of these n entries
  pub state : (seq : Sequence) → AllByRecursion (λ e. IsTransaction e.transaction) seq → IsSound (region_state (patterns instance) r) instance seq journal (block_of (files (database_file r))) t
      → s.globals ≡ region_state (patterns instance) r (take n seq)

-- What a region that was opened for the first t entries of this sequence is against the files.
pub record IsOpened (instance : List InstanceRecord) (t : ℕ) (seq : Sequence) (journal : List Placed) (r : ℕ) (s : Standing) (files : Files) : Type 0 where
  pub holds : IsHeldFrom instance t journal r s files
  pub inside : IsInside instance t journal r files
  -- where the region is sound for t it has its part of the state of these entries
  pub state : IsSound (region_state (patterns instance) r) instance seq journal (block_of (files (database_file r))) t → s.globals ≡ region_state (patterns instance) r (take t seq)

-- A region that goes back to an epoch for t can't be opened, by what stands at this place of this file.
pub record IsRefused (instance : List InstanceRecord) (t : ℕ) (seq : Sequence) (journal : List Placed) (r file offset : ℕ) (files : Files) : Type 0 where
  pub goes_back : NeedsForward instance t journal → ⊥
  pub block : ℕ
  pub outside : AreOutside (blocks_of instance t journal r files) (region_state (patterns instance) r (take (chosen instance t journal).number seq)) block
  pub file_is : file ≡ database_file r
  pub offset_is : offset ≡ BLOCK * block

-- A region of so many that can't be opened, while each before it has its blocks in the format or needs forward recovery.
pub record AreRefused (instance : List InstanceRecord) (t : ℕ) (seq : Sequence) (journal : ℕ → List Placed) (count file offset : ℕ) (files : Files) : Type 0 where
  pub region : ℕ
  pub below : region < count
  pub earlier : (q : ℕ) → q < region → IsInside instance t (journal q) q files
  pub refused : IsRefused instance t seq (journal region) region file offset files

-- A sequence of transactions of their form, which the index is of, and the records whose signs these are.
pub record AreGiven (files : Files) (instance : List InstanceRecord) (signs : List (List PlacedSign)) (index : EntryIndex) (journal : ℕ → List Placed) (seq : Sequence) : Type 0 where
  pub are_signs : AreSigns files signs journal
  pub indexed : Indexes (InFiles files) (reigns instance) index seq
  pub forms : AllByRecursion (λ e. IsTransaction e.transaction) seq
