-- Which regions of a site need forward recovery.
use Rattle.std.specs.Prelude.{◌≡◌, ◌<◌, ℕ, length, Option, Some, None}
use Rattle.site_defs.specs.Limits.{LAST_GENERATION}
use Rattle.disk_defs.specs.Disk.{Files}
use Rattle.global_defs.specs.Entry.{Sequence}
use Rattle.journal_defs.specs.Instance.{generation, regions}
use Rattle.journal_defs.specs.Sequence.{Records, IsSequence}
use Rattle.journal_defs.specs.Epochs.{chosen, first_without}
use Rattle.journal_defs.specs.Stands.{AreRecords}

-- the first generation without images behind the epoch that a region goes back to for so many entries
abbrev pub without_behind : Records → ℕ → ℕ → Option ℕ
without_behind u t r = first_without (u.journal r) (chosen u.instance t (u.journal r))

-- The region is the first that needs forward recovery for so many entries, first for that generation.
pub record IsFirstWithout (u : Records) (t region generation : ℕ) : Type 0 where
  pub there : region < length (regions u.instance)
  pub needs : without_behind u t region ≡ Some generation
  pub earlier : (q : ℕ) → q < region → without_behind u t q ≡ None

-- no region does
abbrev pub NoneIsWithout : Records → ℕ → Type 0
NoneIsWithout u t = (r : ℕ) → r < length (regions u.instance) → without_behind u t r ≡ None

-- no region does of the site whose files these are
abbrev pub NoneNeeds : ℕ → Files → Type 0
NoneNeeds t files = (u : Records) → AreRecords files u → NoneIsWithout u t

-- a generation is left, and the region is the first that needs it for all entries of the sequence that these files stand for
abbrev pub HaveFirstWithout : Files → (region : ℕ) → Type 0
HaveFirstWithout files region = (u : Records) × (seq : Sequence) × AreRecords files u × IsSequence u seq × (generation u.instance < LAST_GENERATION) × (g : ℕ) × IsFirstWithout u (length seq) region g
