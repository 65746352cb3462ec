-- What a journal has, as records: those that every image has, those that some may have, and those behind closed gates.
use Rattle.std.specs.Prelude.{ℕ, ◌≤◌, List, [], ◌∷◌, ◌++◌, length, take}
use Rattle.std.specs.List.{AllZip}
use Rattle.gated_file.specs.State.{State}
use Rattle.journal_defs.specs.Journal.{JournalRecord, IsJournalBody}
use Rattle.journal_defs.specs.Stands.{Holds}

pub record Recorded : Type 0 where
  -- the records that every image has
  pub hard : List JournalRecord
  -- those whose gates were opened since the last sync: an image has the first few of them
  pub opening : List JournalRecord
  -- those that were appended behind closed gates: no image has any of them
  pub closed : List JournalRecord

-- the bodies of these records
pub record AreBodiesOf (bodies : State) (s : Recorded) : Type 0 where
  pub hard : AllZip IsJournalBody bodies.hard s.hard
  pub opening : AllZip IsJournalBody bodies.opening s.opening
  pub closed : AllZip IsJournalBody bodies.closed s.closed

-- The file has the records of `sure`, and then the first few of `more`.
abbrev pub StandsRecords : List JournalRecord → List JournalRecord → List ℕ → Type 0
StandsRecords sure more file = (n : ℕ) × (n ≤ length more) × Holds IsJournalBody file (sure ++ take n more)

-- after one more record
abbrev pub appended : Recorded → JournalRecord → Recorded
appended s r = record { hard = s.hard; opening = s.opening; closed = s.closed ++ r ∷ [] }

-- after a sync: the gates that were opened are on the disk
abbrev pub synced : Recorded → Recorded
synced s = record { hard = s.hard ++ s.opening; opening = []; closed = s.closed }

-- after all gates were opened
abbrev pub opened : Recorded → Recorded
opened s = record { hard = s.hard; opening = s.opening ++ s.closed; closed = [] }

-- with these records alone, all of them on the disk
abbrev pub settled : List JournalRecord → Recorded
settled rs = record { hard = rs; opening = []; closed = [] }

-- after all were put on the disk
abbrev pub hardened : Recorded → Recorded
hardened s = settled (s.hard ++ s.opening ++ s.closed)
