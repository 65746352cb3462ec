-- What files stand for: the records that they hold, and the sequence of these (GT.M: the journals of all generations and regions,
-- read as one).
use Rattle.std.specs.Prelude.{◌≡◌, ℕ, zero, suc, ◌<◌, ◌≤◌, List, [], ◌∷◌, ◌++◌, length, map, Some}
use Rattle.std.specs.List.{AllZip}
use Rattle.disk_defs.specs.Disk.{Files}
use Rattle.disk_defs.specs.Gates.{Body, records}
use Rattle.global_defs.specs.Entry.{Sequence}
use Rattle.global_defs.specs.Rising.{StartsRise}
use Rattle.journal_defs.specs.Numbers.{INSTANCE, journal_file}
use Rattle.journal_defs.specs.Journal.{JournalRecord, IsJournalBody, BeginsWithPini}
use Rattle.journal_defs.specs.Instance.{InstanceRecord, IsInstanceBody, BeginsWithCreate, CutsRise, regions, generation}
use Rattle.journal_defs.specs.Surviving.{reigns}
use Rattle.journal_defs.specs.Sequence.{Placed, Records, IsSequence}

-- the file is in gated text, and its open bodies are those of these records
abbrev pub Holds : {R : Type 0} → (Body → R → Type 0) → List ℕ → List R → Type 0
Holds is_body file rs = (bodies : List Body) × (records file ≡ Some bodies) × AllZip is_body bodies rs

-- The instance file has these records: CREATE first, CUTs of rising generations, surviving reigns with rising starts.
pub record IsInstance (file : List ℕ) (rs : List InstanceRecord) : Type 0 where
  pub bodies : Holds IsInstanceBody file rs
  pub create : BeginsWithCreate rs
  pub cuts : CutsRise 0 rs
  pub reigns : StartsRise 0 (reigns rs)

-- the last generation that began, where this one has these records
abbrev pub last_began : ℕ → ℕ → List JournalRecord → ℕ
last_began previous g [] = previous
last_began previous g (x ∷ xs) = g

abbrev pub in_generation : ℕ → JournalRecord → Placed
in_generation g x = record { generation = g; what = x }

-- These are a region's records over the generations up to g, by generation and then by place; `last` is the last that began.
abbrev pub IsJournal : Files → (region : ℕ) → (g last : ℕ) → List Placed → Type 0
IsJournal files r zero last journal = (last ≡ 0) × (journal ≡ [])
IsJournal files r (suc g) last journal =
    (previous : ℕ) × (older : List Placed) × (newer : List JournalRecord) × IsJournal files r g previous older
    × Holds IsJournalBody (files (journal_file (suc g) r)) newer × BeginsWithPini r (suc g) previous newer
    × (last ≡ last_began previous (suc g) newer) × (journal ≡ older ++ map (in_generation (suc g)) newer)

-- The files hold these records.
pub record AreRecords (files : Files) (s : Records) : Type 0 where
  pub instance : IsInstance (files INSTANCE) s.instance
  pub journals : (r : ℕ) → r < length (regions s.instance) → (last : ℕ) × IsJournal files r (generation s.instance) last (s.journal r)
  -- there are no other regions
  pub no_more : (r : ℕ) → length (regions s.instance) ≤ r → s.journal r ≡ []

-- The files stand for the sequence.
pub record Stands (files : Files) (seq : Sequence) : Type 0 where
  pub records : Records
  pub held : AreRecords files records
  pub sequence : IsSequence records seq
