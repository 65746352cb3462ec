-- Parts of entries by their places.
use Rattle.std.specs.Prelude.{◌≡◌, ℕ, ◌≤◌, ◌<◌, ◌==◌, if◌then◌else◌, List, length, get_or, Option, Some, None}
use Rattle.global_defs.specs.declared.limits.TheConstants.{MOST_GENERATIONS}
use Rattle.disk_defs.specs.Disk.{Files}
use Rattle.journal_defs.specs.Journal.{JournalRecord, Pini, Epoch, Pblk, Tcom, Part, IsPart}
use Rattle.journal_defs.specs.Numbers.{journal_file}
use Rattle.gvn_model.specs.Entries.{origin_value}
use Rattle.journal_defs.specs.Sequence.{Placed}
use Rattle.entry_index.specs.Order.{IsAmong}
use Rattle.entry_index.specs.Places.{StandsAt}
use Rattle.entry_index.specs.declared.place.PartPlace.{PartPlace}
use Rattle.entry_index.specs.declared.reading.ReadPart.{ReadPart}

-- the place of no part
abbrev pub NOWHERE : PartPlace
NOWHERE = record { generation = 0; offset = 0 }

-- A record of a region, a generation and an offset stands there in these files;
abbrev pub InFiles : Files → ℕ → ℕ → ℕ → JournalRecord → Type 0
InFiles files r g offset x = StandsAt (files (journal_file g r)) offset x

-- or it's one of these records, before which so many bytes of its generation stand.
abbrev pub InJournals : (ℕ → List Placed) → ℕ → ℕ → ℕ → JournalRecord → Type 0
InJournals journal r g offset x = IsAmong (journal r) g offset x

-- The part of entry n that stands at this place of region r, if one does.
abbrev pub IsPartAt : (ℕ → ℕ → ℕ → JournalRecord → Type 0) → ℕ → ℕ → PartPlace → Option Part → Type 0
IsPartAt stands r n p None = p.generation ≡ 0
IsPartAt stands r n p (Some x) = (1 ≤ p.generation) × (p.generation ≤ MOST_GENERATIONS) × (x.number ≡ n) × stands r p.generation p.offset (Tcom x)

-- These are the parts of entry n that stand at a place in each region; the other regions have none.
pub record AreParts (stands : ℕ → ℕ → ℕ → JournalRecord → Type 0) (n : ℕ) (row : List PartPlace) (part : ℕ → Option Part) : Type 0 where
  pub each : (r : ℕ) → r < length row → IsPartAt stands r n (get_or row r NOWHERE) (part r)
  pub no_more : (r : ℕ) → length row ≤ r → part r ≡ None

-- the part that a record is, where it has this number
abbrev pub part_with : ℕ → JournalRecord → Option Part
part_with n (Tcom p) = if p.number == n then Some p else None
part_with n (Pini s) = None
part_with n (Epoch m) = None
part_with n (Pblk b) = None

abbrev pub read_value : ReadPart → Part
read_value p = record { number = p.number; mask = p.mask; origin = origin_value p.origin; count = p.count; items = p.items }

-- it has its form
abbrev pub IsReadPart : ReadPart → Type 0
IsReadPart p = IsPart (read_value p)
