-- A site as it stood on a disk.
use Rattle.std.specs.Prelude.{◌≡◌, ◌<◌, ◌++◌, ℕ, Bool, false, List, [], ◌∷◌, length, map, take, IfSome}
use Rattle.std.specs.FinMap as globals
use Rattle.site_defs.specs.Limits.{LAST_GENERATION}
use Rattle.global_defs.specs.declared.limits.TheConstants.{NUMBERS_END}
use Rattle.disk_defs.specs.Disk.{Files, View}
use Rattle.global_defs.specs.Entry.{Sequence, state}
use Rattle.journal_defs.specs.Broken.{broken, broken_text}
use Rattle.journal_defs.specs.Instance.{generation, regions, site_name}
use Rattle.journal_defs.specs.Surviving.{reigns}
use Rattle.journal_defs.specs.Sequence.{Placed, Records, IsSequence}
use Rattle.journal_defs.specs.Fit.{IsSoundImage}
use Rattle.entry_index.specs.declared.placed.PlacedSign.{PlacedSign}
use Rattle.entry_index.specs.Order.{StandUpTo}
use Rattle.entry_index.specs.Found.{AreFound, IsWhole, entry_count}
use Rattle.entry_index.specs.Among.{IsIndexOf}
use Rattle.site_files.specs.Loading.{MayBeOpened, WasRead, last_of, next_cut}
use Rattle.region_store.specs.Joined.{Joined, joined}
use Rattle.site_store.specs.declared.preparing.FoundFiles.{FoundFiles}
use Rattle.site_store.specs.declared.preparing.StandingSite.{StandingSite}
use Rattle.site_store.specs.Finding.{HasLayout, mapping_of}
use Rattle.site_store.specs.Opening.{AreTextsDurable, AreDatabasesDurable}
use Rattle.site_store.specs.Needing.{NoneIsWithout}
use Rattle.site_store.specs.Site.{AreHeld, StandOn}

-- the records that its files hold, with those of its journals by region
abbrev pub records_of : StandingSite → (ℕ → List Placed) → Records
records_of k journal = record { instance = k.log.records; journal = journal }

-- the records of a site that was found, with those of its journals by region
abbrev pub found_records : FoundFiles → (ℕ → List Placed) → Records
found_records f journal = record { instance = f.read.log.records; journal = journal }

-- the signs that were found, by region
abbrev pub found_signs : FoundFiles → List (List PlacedSign)
found_signs f = map (λ s. s.items) f.read.signs.items

-- What was found of a site, whatever its disk tells: instance records of which a generation is left, signs of each region's records, and places of entries.
pub record HasFound (f : FoundFiles) : Type 0 where
  pub form : MayBeOpened f.read.log.records (last_of f.read.last_began.items)
  pub counted : length f.read.last_began.items ≡ length (regions f.read.log.records)
  pub low : generation f.read.log.records < LAST_GENERATION
  pub directory : f.read.directory ≡ mapping_of f.read.log.records
  pub signs : length f.read.signs.items ≡ length (regions f.read.log.records)
  pub each_place : f.entries.regions ≡ length (regions f.read.log.records)
  pub whole : IsWhole f.entries
  pub few : entry_count f.entries < NUMBERS_END

-- The files hold these records, whose signs were found, and are on the disk for good since; the places are those of the sequence for which they stand.
pub record IsFoundIn (v : View) (f : FoundFiles) (journal : ℕ → List Placed) (seq : Sequence) (files : Files) : Type 0 where
  pub read : WasRead v f.read.log.records (last_of f.read.last_began.items) journal files
  pub found : AreFound files f.read.log.records f.read.lowest (found_signs f) f.entries (found_records f journal) seq
  pub indexed : IsIndexOf journal (reigns f.read.log.records) f.entries seq
  pub stand : (r : ℕ) → r < length (regions f.read.log.records) → StandUpTo files r (generation f.read.log.records) (journal r)
  pub broken_is : f.broken ≡ broken_text (site_name f.read.log.records) (length seq) (broken (found_records f journal) (length seq))

-- Its files were read at a moment, and are on the disk for good since.
pub record WasFound (u v : View) (f : FoundFiles) : Type 0 where
  pub told : IfSome u.content (λ files. (journal : ℕ → List Placed) × (seq : Sequence) × IsFoundIn v f journal seq files)
  pub texts : IfSome u.content (AreTextsDurable v (generation f.read.log.records))
  pub databases : IfSome u.content (AreDatabasesDurable v (length (regions f.read.log.records)))

-- The site stands as it was found.
pub record IsFoundAs (f : FoundFiles) (k : StandingSite) : Type 0 where
  pub log : k.log ≡ f.read.log
  pub last_began : k.last_began ≡ f.read.last_began
  pub entries : k.entries ≡ f.entries
  pub broken : k.broken ≡ f.broken
  pub layout : (n : ℕ) → HasLayout (f.read.log.records ++ next_cut f.read.log.records n ∷ []) k.layout

-- what was found is so of these records, if the files hold them, and of the sequence for which they stand
abbrev pub IfFound : FoundFiles → (Records → Sequence → Files → Type 0) → Files → Type 0
IfFound f P files = (u : Records) (seq : Sequence) → AreFound files f.read.log.records f.read.lowest (found_signs f) f.entries u seq → P u seq files

-- Its regions are open for so many entries of what was found: made anew, or on their blocks as they were at the epochs chosen for these. On a sound site all
-- nodes are the state of these entries.
pub record IsOpenAs (anew : Bool) (u v : View) (f : FoundFiles) (t : ℕ) (j : Joined) : Type 0 where
  pub blocks : IfSome u.content (IfFound f (λ x seq files. StandOn anew files x t j))
  pub regions : AreHeld v (length (regions f.read.log.records)) j
  pub nodes : IfSome u.content (IfFound f (λ x seq files. IsSoundImage files x seq → joined j ≡ state (take t seq)))
  -- whatever the disk tells, they are the state of some sequence, and none where there is no entry
  pub some : (seq : Sequence) × (joined j ≡ state seq)
  pub none : t ≡ 0 → joined j ≡ globals.empty

abbrev pub IsOpenFor : View → View → FoundFiles → ℕ → Joined → Type 0
IsOpenFor = IsOpenAs false

-- What the files of a site hold that stands as it does: these records, on the disk for good since, the sequence for which they stand, what is broken behind it, and
-- the regions' blocks, made anew or as they were at the epochs chosen for that sequence. On a sound site all nodes are the state of it.
pub record StandsIn (anew : Bool) (v : View) (k : StandingSite) (journal : ℕ → List Placed) (seq : Sequence) (files : Files) : Type 0 where
  pub sequence : IsSequence (records_of k journal) seq
  pub count : entry_count k.entries ≡ length seq
  pub read : WasRead v k.log.records (last_of k.last_began.items) journal files
  pub indexed : IsIndexOf journal (reigns k.log.records) k.entries seq
  pub stand : (r : ℕ) → r < length (regions k.log.records) → StandUpTo files r (generation k.log.records) (journal r)
  pub broken_is : k.broken ≡ broken_text (site_name k.log.records) (length seq) (broken (records_of k journal) (length seq))
  -- unless they are made anew no region needs forward recovery for all entries
  pub without : anew ≡ false → NoneIsWithout (records_of k journal) (length seq)
  pub blocks : StandOn anew files (records_of k journal) (length seq) k.globals
  pub nodes : IsSoundImage files (records_of k journal) seq → joined k.globals ≡ state seq

-- Its files were read at a moment, and are on the disk for good since.
pub record Stood (anew : Bool) (u v : View) (k : StandingSite) : Type 0 where
  pub form : MayBeOpened k.log.records (last_of k.last_began.items)
  pub counted : length k.last_began.items ≡ length (regions k.log.records)
  pub low : generation k.log.records < LAST_GENERATION
  pub layout : (n : ℕ) → HasLayout (k.log.records ++ next_cut k.log.records n ∷ []) k.layout
  pub each_place : k.entries.regions ≡ length (regions k.log.records)
  pub whole : IsWhole k.entries
  pub few : entry_count k.entries < NUMBERS_END
  pub told : IfSome u.content (λ files. (journal : ℕ → List Placed) × (seq : Sequence) × StandsIn anew v k journal seq files)
  pub texts : IfSome u.content (AreTextsDurable v (generation k.log.records))
  pub databases : IfSome u.content (AreDatabasesDurable v (length (regions k.log.records)))
  pub regions : AreHeld v (length (regions k.log.records)) k.globals
  -- whatever the disk tells, they are the state of some sequence, and none where there is no entry
  pub some : (seq : Sequence) × (joined k.globals ≡ state seq)
  pub none : entry_count k.entries ≡ 0 → joined k.globals ≡ globals.empty
