-- What files stand for.
use Rattle.std.specs.Prelude.{◌≡◌, ◌≢◌, ◌⊎◌, ℕ, zero, suc, ◌<◌, true, List, [], ◌∷◌, ◌++◌, length, nat_lt, Option, Some, None, if◌then◌else◌}
use Rattle.std.specs.List.{AllByRecursion, filter_map}
use Rattle.global_defs.specs.declared.limits.TheConstants.{MOST_GENERATIONS}
use Rattle.disk_defs.specs.Disk.{Files}
use Rattle.disk_defs.specs.Gates as gates
use Rattle.journal_defs.specs.Numbers.{INSTANCE, lost_file, broken_file}
use Rattle.journal_defs.specs.Journal.{JournalRecord, Start, Pini, Epoch, Pblk, Tcom}
use Rattle.journal_defs.specs.Instance.{regions, generation, site_name}
use Rattle.journal_defs.specs.Directory.{Pattern, patterns}
use Rattle.journal_defs.specs.Sequence.{Records}
use Rattle.journal_defs.specs.Stands.{AreRecords}
use Rattle.journal_defs.specs.Broken.{broken, broken_text}
use Rattle.journal_defs.specs.Fit.{IsSoundImage}
use Rattle.site_defs.specs.Contents.{Taken, Contents, Leftover, NO_LEFTOVER, nothing, is_made}

-- how a generation begins, where the record says it
abbrev pub start_in : JournalRecord → Option Start
start_in (Pini s) = Some s
start_in (Epoch m) = None
start_in (Pblk b) = None
start_in (Tcom p) = None

-- the epoch that stands here, where the record is one
abbrev pub epoch_in : ℕ → JournalRecord → Option Taken
epoch_in g (Epoch m) = Some (record { generation = g; number = m.number })
epoch_in g (Pini s) = None
epoch_in g (Pblk b) = None
epoch_in g (Tcom p) = None

-- No site was made there: the instance file has no open record, and no other file has a byte.
pub record IsBlank (files : Files) : Type 0 where
  pub instance : gates.records (files INSTANCE) ≡ Some []
  pub others : (f : ℕ) → f ≢ INSTANCE → files f ≡ []

-- the broken-transaction files of the first g generations
abbrev pub texts_of : Files → ℕ → List (List ℕ)
texts_of files zero = []
texts_of files (suc g) = texts_of files g ++ files (broken_file (suc g)) ∷ []

-- the lost-transaction files of the first g generations
abbrev pub losts_of : Files → ℕ → List (List ℕ)
losts_of files zero = []
losts_of files (suc g) = losts_of files g ++ files (lost_file (suc g)) ∷ []

-- The files of a site that stand for this, are clean, and are sound for every target. Each pattern is for a region of it.
pub record IsSite (files : Files) (c : Contents) : Type 0 where
  pub made : is_made c ≡ true
  pub mapped : AllByRecursion (λ (p : Pattern). p.region < length (regions c.instance)) (patterns c.instance)
  pub records : Records
  pub instance : records.instance ≡ c.instance
  pub starts : (r : ℕ) → c.starts r ≡ filter_map (λ p. start_in p.what) (records.journal r)
  pub epochs : (r : ℕ) → c.epochs r ≡ filter_map (λ p. epoch_in p.generation p.what) (records.journal r)
  pub texts : c.texts ≡ texts_of files (generation c.instance)
  pub losts : c.losts ≡ losts_of files (generation c.instance)
  pub image : IsSoundImage files records c.sequence

-- the broken-transaction file of the next generation, where there can be one
abbrev pub torn_of : Files → ℕ → List ℕ
torn_of files g = if nat_lt g MOST_GENERATIONS then files (broken_file (suc g)) else []

-- The files of that site have this behind its sequence.
pub record HasLeft (files : Files) (c : Contents) (left : Leftover) : Type 0 where
  pub records : Records
  pub held : AreRecords files records
  pub broken : left.broken ≡ broken_text (site_name c.instance) (length c.sequence) (broken records (length c.sequence))
  pub torn : left.torn ≡ torn_of files (generation c.instance)

-- the files stand for this
abbrev pub Stands : Files → Contents → Type 0
Stands files c = ((c ≡ nothing) × IsBlank files) ⊎ IsSite files c

-- the files stand for this, with that behind it
abbrev pub Reads : Files → Contents → Leftover → Type 0
Reads files c left = ((c ≡ nothing) × (left ≡ NO_LEFTOVER) × IsBlank files) ⊎ (IsSite files c × HasLeft files c left)
