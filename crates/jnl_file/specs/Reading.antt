-- Reading a journal from a place on.
use Rattle.std.specs.Prelude.{◌≡◌, ◌⊎◌, ℕ, ◌+◌, Bool, true, false, List, length, drop, Option, Some, None}
use Rattle.std.specs.List.{AllZip}
use Rattle.disk_defs.specs.Gates.{Body, Open, Shut, NoGate, gate_at, bodies_at}
use Rattle.journal_defs.specs.Journal.{JournalRecord, Pini, Epoch, Pblk, Tcom, IsInForm, IsJournalBody, IsNoPini, BeginsWithPini}
use Rattle.journal_defs.specs.Stands.{Holds}
use Rattle.jnl_record.specs.Values.{record_value, IsFirstVersion}
use Rattle.jnl_record.specs.declared.record.JnlRecord.{JnlRecord}

-- A record behind an open gate and the next gate's place; or a closed gate.
abbrev pub FindsRecord : List ℕ → ℕ → Option (JnlRecord × ℕ) → Type 0
FindsRecord file at None = gate_at file at ≡ Shut
FindsRecord file at (Some found) = (body : Body) × (gate_at file at ≡ Open body (drop found.1 file)) × (found.1 ≡ at + 5 + length body) × IsJournalBody body (record_value found.0)

-- a record as it is read: of the first version, and within its form
abbrev pub IsReadRecord : JnlRecord → Type 0
IsReadRecord r = IsFirstVersion r × IsInForm (record_value r)

-- From this place on the file has these records, up to its first closed gate.
abbrev pub HoldsFrom : List ℕ → ℕ → List JournalRecord → Type 0
HoldsFrom file at rs = (bodies : List Body) × (bodies_at file at ≡ Some bodies) × AllZip IsJournalBody bodies rs

-- no gate of the format, or an open gate with a body of no record
abbrev pub IsNoRecord : List ℕ → ℕ → Type 0
IsNoRecord file at = (gate_at file at ≡ NoGate) ⊎ ((body : Body) × (next : ℕ) × (gate_at file at ≡ Open body (drop next file)) × ((r : JournalRecord) → IsJournalBody body r → ⊥))

-- the PINI of this region and generation
abbrev pub IsPiniOf : ℕ → ℕ → JournalRecord → Type 0
IsPiniOf region generation (Pini s) = (s.region ≡ region) × (s.generation ≡ generation)
IsPiniOf region generation (Epoch m) = ⊥
IsPiniOf region generation (Pblk b) = ⊥
IsPiniOf region generation (Tcom p) = ⊥

-- the first record is that PINI, and no other one is a PINI
abbrev pub MayStand : Bool → ℕ → ℕ → JournalRecord → Type 0
MayStand true region generation r = IsPiniOf region generation r
MayStand false region generation r = IsNoPini r

-- The file has these records, and they are those of a journal of this region and generation.
pub record IsJournalFile (region generation : ℕ) (file : List ℕ) (rs : List JournalRecord) : Type 0 where
  pub held : Holds IsJournalBody file rs
  pub previous : ℕ
  pub begins : BeginsWithPini region generation previous rs
