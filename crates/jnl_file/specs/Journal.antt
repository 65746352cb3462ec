-- A journal on a disk.
use Rattle.std.specs.Prelude.{◌≡◌, ◌≤◌, ◌<◌, ℕ, ◌++◌, length, IfSome, IsSomeAnd, IsTrue}
use Rattle.disk_defs.specs.Disk.{Files, View, Image}
use Rattle.disk_defs.specs.Gates.{IsBody}
use Rattle.gated_file.specs.State.{State}
use Rattle.gated_file.specs.Gated as gates
use Rattle.journal_defs.specs.Numbers.{journal_file}
use Rattle.journal_defs.specs.Journal.{JournalRecord, IsJournalBody}
use Rattle.journal_defs.specs.Stands.{Holds}
use Rattle.jnl_file.specs.Records.{Recorded, AreBodiesOf, StandsRecords}
use Rattle.jnl_file.specs.declared.journal.Journal.{Journal}

-- the journal as it reads and in each image
pub record HoldsRecords (v : View) (j : Journal) (s : Recorded) (files : Files) : Type 0 where
  -- what it stands for
  pub reads : Holds IsJournalBody (files j.gated.file) (s.hard ++ s.opening)
  pub stands : (c : Files) → Image v c → StandsRecords s.hard s.opening (c j.gated.file)
  -- its bodies
  pub bodies : State
  pub held : gates.Holds v j.gated bodies files
  pub spelled : AreBodiesOf bodies s

-- The disk tells its files, and the journal has these records.
abbrev pub HasRecords : View → Journal → Recorded → Type 0
HasRecords v j s = IsSomeAnd v.content (HoldsRecords v j s)

-- The journal is open for calls: it has some records, where the disk tells it, and its gated file is open for calls.
pub record IsReady (v : View) (j : Journal) : Type 0 where
  pub file : j.gated.file ≡ journal_file j.generation j.region
  pub gated : gates.IsReady v j.gated
  pub state : IfSome v.content (λ files. (s : Recorded) × HoldsRecords v j s files)

-- The journal of this region and generation.
pub record IsJournalOf (j : Journal) (r g : ℕ) : Type 0 where
  pub region : j.region ≡ r
  pub generation : j.generation ≡ g
  pub file : j.gated.file ≡ journal_file g r

-- the same journal
pub record IsSameJournal (old new : Journal) : Type 0 where
  pub region : new.region ≡ old.region
  pub generation : new.generation ≡ old.generation
  pub file : new.gated.file ≡ old.gated.file

-- This record is prepared: its body, and the room to append it.
pub record IsPrepared (j : Journal) (r : JournalRecord) : Type 0 where
  pub spelled : IsJournalBody j.body r
  pub size : IsBody j.body
  pub bodies : 1 ≤ j.gated.bodies_left
  pub bytes : length j.body ≤ j.gated.bytes_left

-- Nothing was appended since the last sync: the bodies behind closed gates are on the disk, so their gates may be opened.
abbrev pub IsSynced : Journal → Type 0
IsSynced j = IsTrue j.gated.synced

-- Gates are closed: records wait behind them.
abbrev pub HasClosed : Journal → Type 0
HasClosed j = 0 < length j.gated.closed.items

-- what was prepared, and the room, stay
pub record SamePrepared (old new : Journal) : Type 0 where
  pub body : new.body ≡ old.body
  pub room : gates.HasSameRoom old.gated new.gated
