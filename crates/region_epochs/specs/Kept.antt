-- A site's newest journals and regions against its records and images.
use Rattle.std.specs.Prelude.{◌≡◌, ◌⊎◌, ◌≤◌, ◌<◌, ◌++◌, ◌∷◌, ℕ, suc, List, [], length, map, Some, IfSome}
use Rattle.disk_defs.specs.Disk.{Files, View, Image, IsDurable}
use Rattle.global_defs.specs.Entry.{Sequence}
use Rattle.journal_defs.specs.Numbers.{database_file}
use Rattle.journal_defs.specs.Journal.{JournalRecord, Epoch, Pblk, Before, Mark}
use Rattle.journal_defs.specs.Instance.{regions}
use Rattle.journal_defs.specs.Directory.{patterns}
use Rattle.journal_defs.specs.Sequence.{Records}
use Rattle.journal_defs.specs.Epochs.{chosen, block_of, NeedsForward}
use Rattle.journal_defs.specs.Sound.{region_state, NoEpochPast}
use Rattle.journal_defs.specs.Stands.{in_generation}
use Rattle.journal_defs.specs.Growth.{NonePast}
use Rattle.journal_defs.specs.Fit.{IsSoundImage}
use Rattle.block_laws.specs.Fronts.{AreNewest}
use Rattle.before_image.specs.Images.{first_image}
use Rattle.region_store.specs.Region.{Standing, HoldsRegion, IsHeld, changed_images}
use Rattle.region_journals.specs.declared.journals.RegionJournal.{RegionJournal}
use Rattle.region_journals.specs.Journals.{AreReady, KeepsJournals}
use Rattle.region_store.specs.Joined.{Joined, region_at}

-- images as records of a journal
abbrev pub image_records : List Before → List JournalRecord
image_records is = map (λ i. Pblk i) is

-- some images, and at most one EPOCH of n entries behind them
pub data IsEpochFront (n : ℕ) (l : List JournalRecord) : Type 0 where
  Images : (is : List Before) → l ≡ image_records is → IsEpochFront n l
  WithEpoch : (is : List Before) (m : Mark) → m.number ≡ n → l ≡ image_records is ++ Epoch m ∷ [] → IsEpochFront n l

-- Records with such ones of this generation more at the ends of the regions' journals.
pub record HasMore (n g : ℕ) (s t : Records) : Type 0 where
  pub instance : t.instance ≡ s.instance
  pub more : ℕ → List JournalRecord
  pub journal : (r : ℕ) → t.journal r ≡ s.journal r ++ map (in_generation g) (more r)
  pub each : (r : ℕ) → IsEpochFront n (more r)
  pub no_others : (r : ℕ) → length (regions s.instance) ≤ r → more r ≡ []

-- the files are an image of the same sequence by these records and perhaps such more, with EPOCHs of its length
abbrev pub IsStillSound : Records → Sequence → ℕ → Files → Type 0
IsStillSound s seq g f = (t : Records) × IsSoundImage f t seq × HasMore (length seq) g s t

-- what is logged of a region's changed blocks, as these files read
abbrev pub images_in : Joined → Files → ℕ → List JournalRecord
images_in j files r = image_records (changed_images (region_at j r) (files (region_at j r).file))

-- the image that one block of a region needs, as these files read
abbrev pub image_needed : Joined → Files → ℕ → ℕ → List Before
image_needed j files r b = first_image (region_at j r).imaged b (block_of (files (region_at j r).file) b)

-- The journals of generation g are open for calls, and each region's blocks are those of some epoch and its database file.
pub record IsTogether (v : View) (g : ℕ) (js : List RegionJournal) (j : Joined) : Type 0 where
  pub ready : AreReady v g js
  pub count : length js ≡ length j.regions
  pub files : (r : ℕ) → r < length j.regions → (region_at j r).file ≡ database_file r
  pub held : (r : ℕ) → r < length j.regions → IfSome v.content (IsHeld (region_at j r))

-- Each image stands for the sequence by these records, where those of the newest journals, of generation g + 1, are these.
pub record EachIsSound (v : View) (s : Records) (seq : Sequence) (g : ℕ) (newer : ℕ → List JournalRecord) : Type 0 where
  pub images : (f : Files) → Image v f → IsSoundImage f s seq
  pub newest : (f : Files) → Image v f → AreNewest f s g newer
  pub none_past : NonePast (length seq) s
  pub no_epoch_past : (r : ℕ) → r < length (regions s.instance) → NoEpochPast (length seq) s.instance (s.journal r)

-- A region has its part of the state, in blocks of its database file, which is on the disk for good. They are those of the epoch chosen
-- for the sequence, or the region needs forward recovery.
pub record IsRegionKept (v : View) (files : Files) (s : Records) (seq : Sequence) (r : ℕ) (x : Standing) : Type 0 where
  pub file : x.file ≡ database_file r
  pub part : x.globals ≡ region_state (patterns s.instance) r seq
  pub durable : IsDurable v (database_file r) (files (database_file r))
  pub held : IsHeld x files
  pub holds : NeedsForward s.instance (length seq) (s.journal r) ⊎ HoldsRegion (chosen s.instance (length seq) (s.journal r)) (files (database_file r)) x

-- A site stands for a sequence on a disk that tells its files, its newest journals have all their records for good, and its regions have
-- their parts of its state.
pub record IsKept (v : View) (s : Records) (seq : Sequence) (g : ℕ) (newer : ℕ → List JournalRecord) (js : List RegionJournal) (j : Joined) : Type 0 where
  pub files : Files
  pub told : v.content ≡ Some files
  pub sound : EachIsSound v s seq g newer
  pub ready : AreReady v (suc g) js
  pub journals : KeepsJournals v newer (λ r. []) js
  pub as_many_journals : length js ≡ length (regions s.instance)
  pub as_many_regions : length j.regions ≡ length (regions s.instance)
  pub each : (r : ℕ) → r < length (regions s.instance) → IsRegionKept v files s seq r (region_at j r)
