-- Where the records of journals stand in their files, by the records alone.
use Rattle.std.specs.Prelude.{◌≡◌, ◌+◌, ◌≤◌, ◌==◌, ℕ, List, [], ◌∷◌, ◌++◌, length, take, slice_get, Some, if◌then◌else◌}
use Rattle.disk_defs.specs.Disk.{Files}
use Rattle.disk_defs.specs.Gates.{Body, IsBody, framed}
use Rattle.journal_defs.specs.Journal.{JournalRecord, IsJournalBody, spelled_record}
use Rattle.journal_defs.specs.Numbers.{journal_file}
use Rattle.journal_defs.specs.Sequence.{Placed}
use Rattle.entry_index.specs.Places.{StandsAt}
use Rattle.entry_index.specs.declared.placed.PlacedSign.{PlacedSign}

-- how many bytes a record takes in its file: its gate, the length of its body, and that
abbrev pub size_of : JournalRecord → ℕ
size_of r = 5 + length (spelled_record r)

-- how many bytes those of these records take that are of one generation
abbrev pub bytes_in : ℕ → List Placed → ℕ
bytes_in g [] = 0
bytes_in g (p ∷ ps) = (if p.generation == g then size_of p.what else 0) + bytes_in g ps

-- The record is one of these of a region, of this generation, and in that generation's file so many bytes stand before it.
pub record IsAmong (journal : List Placed) (generation offset : ℕ) (r : JournalRecord) : Type 0 where
  pub place : ℕ
  pub there : slice_get journal place ≡ Some (record { generation = generation; what = r })
  pub offset_is : offset ≡ bytes_in generation (take place journal)

-- each sign has the place of its record
abbrev pub AreInOrder : List PlacedSign → List Placed → Type 0
AreInOrder signs journal = (i : ℕ) (s : PlacedSign) → slice_get signs i ≡ Some s → s.offset ≡ bytes_in s.generation (take i journal)

-- the same of the signs of one generation's records
abbrev pub AreNewer : (generation : ℕ) → List PlacedSign → List Placed → Type 0
AreNewer generation signs placed = (i : ℕ) (s : PlacedSign) → slice_get signs i ≡ Some s → (s.generation ≡ generation) × (s.offset ≡ bytes_in generation (take i placed))

-- each of these records of a region is of a generation from 1 to h, and stands at its place in that generation's file
abbrev pub StandUpTo : Files → (region : ℕ) → (h : ℕ) → List Placed → Type 0
StandUpTo files region h journal = (g o : ℕ) (r : JournalRecord) → IsAmong journal g o r → (1 ≤ g) × (g ≤ h) × StandsAt (files (journal_file g region)) o r

-- the bodies of these records stand one behind another from the start of a file, each behind some gate
abbrev pub AreLaid : List ℕ → List JournalRecord → Type 0
AreLaid file [] = Unit {0}
AreLaid file (r ∷ rs) = (gate : ℕ) × (body : Body) × (rest : List ℕ) × (file ≡ gate ∷ framed body ++ rest) × IsBody body × IsJournalBody body r × AreLaid rest rs
