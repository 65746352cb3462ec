-- What lies outside the format of journals, and where.
use Rattle.std.specs.Prelude.{◌≡◌, ◌≢◌, ◌⊎◌, ℕ, suc, ◌≤◌, List, [], ◌∷◌, ◌++◌, length, Some}
use Rattle.std.specs.List.{AllZip}
use Rattle.disk_defs.specs.Disk.{Files}
use Rattle.disk_defs.specs.Gates.{Body, records, spelled}
use Rattle.journal_defs.specs.Numbers.{journal_file}
use Rattle.journal_defs.specs.Journal.{JournalRecord, Start, Pini, IsJournalBody}
use Rattle.journal_defs.specs.FileGrowth.{MayFollow}
use Rattle.journal_defs.specs.Sequence.{Placed}
use Rattle.journal_defs.specs.Stands.{IsJournal}
use Rattle.disk_defs.specs.OutsideGates.{IsOutside}

-- The body at this place belongs to no record, or to one that can't follow those before it in a journal of this region and generation.
pub record HasWrongRecord (region generation : ℕ) (file : List ℕ) (offset : ℕ) : Type 0 where
  pub before : List Body
  pub body : Body
  pub after : List Body
  pub list : records file ≡ Some (before ++ body ∷ after)
  pub place : offset ≡ length (spelled 1 before)
  pub earlier : List JournalRecord
  pub spelled_before : AllZip IsJournalBody before earlier
  pub wrong : (r : JournalRecord) (previous : ℕ) → IsJournalBody body r → MayFollow region generation previous earlier (r ∷ []) → ⊥

-- at this place is no gate of the format, or a wrong record
abbrev pub IsOutsideJournal : ℕ → ℕ → List ℕ → ℕ → Type 0
IsOutsideJournal region generation file offset = IsOutside file offset ⊎ HasWrongRecord region generation file offset

-- The file begins with the PINI of this region and generation, which names another generation before it than this one.
pub record NamesAnother (region generation previous : ℕ) (file : List ℕ) : Type 0 where
  pub body : Body
  pub after : List Body
  pub list : records file ≡ Some (body ∷ after)
  pub start : Start
  pub spelled_start : IsJournalBody body (Pini start)
  pub region_is : start.region ≡ region
  pub generation_is : start.generation ≡ generation
  pub other : start.previous ≢ previous

-- The file is no journal of this region and generation with this one before it, by what stands at this place.
abbrev pub IsOutsideAfter : ℕ → ℕ → ℕ → List ℕ → ℕ → Type 0
IsOutsideAfter region generation previous file offset = IsOutsideJournal region generation file offset ⊎ ((offset ≡ 0) × NamesAnother region generation previous file)

-- Up to some generation the files are those of a region's journals, and the next one, at most this one, isn't, by what stands at this place.
pub record IsOutsideGenerations (files : Files) (region last file offset : ℕ) : Type 0 where
  -- those before it
  pub inside : ℕ
  pub began : ℕ
  pub older : List Placed
  pub older_is : IsJournal files region inside began older
  pub no_later : suc inside ≤ last
  pub file_is : file ≡ journal_file (suc inside) region
  pub outside : IsOutsideAfter region (suc inside) began (files file) offset
