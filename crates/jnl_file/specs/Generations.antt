-- The journals of a region, read from generation to generation.
use Rattle.std.specs.Prelude.{◌≡◌, ◌⊎◌, ℕ, ◌≤◌, Bool, true, false, List, [], ◌∷◌, ◌++◌, length, drop, map}
use Rattle.std.specs.Option.{option_map}
use Rattle.std.specs.List.{AllZip}
use Rattle.disk_defs.specs.Disk.{Files, View, IsDurable}
use Rattle.disk_defs.specs.Gates.{Body, Open, gate_at, bodies_at, records, spelled}
use Rattle.journal_defs.specs.Numbers.{journal_file}
use Rattle.journal_defs.specs.Journal.{JournalRecord, IsJournalBody, IsNoPini, BeginsWithPini}
use Rattle.journal_defs.specs.FileGrowth.{MayFollow}
use Rattle.journal_defs.specs.Sequence.{Placed}
use Rattle.journal_defs.specs.Stands.{Holds, last_began, in_generation}
use Rattle.jnl_file.specs.Reading.{IsNoRecord}

-- the files of a region's journals of generations 1 to this one
abbrev pub AreJournals : ℕ → ℕ → ℕ → Type 0
AreJournals region last file = (g : ℕ) × (1 ≤ g) × (g ≤ last) × (file ≡ journal_file g region)

-- these files are on the disk as they read
abbrev pub AreDurable : View → ℕ → ℕ → Files → Type 0
AreDurable v region last files = (g : ℕ) → 1 ≤ g → g ≤ last → IsDurable v (journal_file g region) (files (journal_file g region))

-- the first record is the PINI of this region and generation, with this one before it, and no other one is a PINI
abbrev pub MayJoin : Bool → ℕ → ℕ → ℕ → JournalRecord → Type 0
MayJoin true region generation previous r = BeginsWithPini region generation previous (r ∷ [])
MayJoin false region generation previous r = IsNoPini r

-- A journal of this region and generation, with this one before it, has records that were added to a list; `began` is the last generation that began.
pub record HasNewer (region generation previous : ℕ) (file : List ℕ) (old new : List Placed) (began : ℕ) : Type 0 where
  pub newer : List JournalRecord
  pub newer_is : Holds IsJournalBody file newer
  pub begins : BeginsWithPini region generation previous newer
  pub began_is : began ≡ last_began previous generation newer
  pub whole : new ≡ old ++ map (in_generation generation) newer

-- At this place stands a record that can't follow these.
pub record IsRefused (region generation previous : ℕ) (earlier : List JournalRecord) (file : List ℕ) (offset : ℕ) : Type 0 where
  pub body : Body
  pub next : ℕ
  pub gate : gate_at file offset ≡ Open body (drop next file)
  pub what : JournalRecord
  pub spelled_what : IsJournalBody body what
  pub refused : MayFollow region generation previous earlier (what ∷ []) → ⊥

-- Up to this place stand records of such a journal, and there stands none that can follow them. What comes behind it wasn't read.
pub record StopsAt (region generation previous : ℕ) (file : List ℕ) (offset : ℕ) : Type 0 where
  pub before : List Body
  pub list : records file ≡ option_map (λ rest. before ++ rest) (bodies_at file offset)
  pub place : offset ≡ length (spelled 1 before)
  pub earlier : List JournalRecord
  pub spelled_before : AllZip IsJournalBody before earlier
  pub here : IsNoRecord file offset ⊎ IsRefused region generation previous earlier file offset
