-- Journals of the newest generation that gain records, as their files have it.
use Rattle.std.specs.Prelude.{◌≡◌, ℕ, suc, List, [], ◌∷◌, ◌++◌, map, Some}
use Rattle.std.specs.List.{AllByRecursion, AllZip}
use Rattle.disk_defs.specs.Disk.{Files}
use Rattle.disk_defs.specs.Gates.{Body, records}
use Rattle.journal_defs.specs.Numbers.{journal_file}
use Rattle.journal_defs.specs.Journal.{JournalRecord, IsJournalBody, IsNoPini, BeginsWithPini}
use Rattle.journal_defs.specs.Sequence.{Placed}
use Rattle.journal_defs.specs.Stands.{Holds, IsJournal, in_generation}

-- records may follow these in a region's generation: the first ones begin with PINI, and no later one is one
abbrev pub MayFollow : ℕ → ℕ → ℕ → List JournalRecord → List JournalRecord → Type 0
MayFollow r g last [] xs = BeginsWithPini r g last xs
MayFollow r g last (y ∷ ys) xs = AllByRecursion IsNoPini xs

-- The newest generation of a region's journal, as the file has it: its records, and the last generation that began before it.
pub record IsNewest (files : Files) (r g : ℕ) (last : ℕ) (older : List Placed) (newer : List JournalRecord) : Type 0 where
  pub older_is : IsJournal files r g last older
  pub newer_is : Holds IsJournalBody (files (journal_file (suc g) r)) newer
  pub begins : BeginsWithPini r (suc g) last newer

-- A region's journal in the newest generation, before and after these records were appended to it.
pub record HasGrown (old new : Files) (r g : ℕ) (journal : List Placed) (xs : List JournalRecord) : Type 0 where
  pub last : ℕ
  pub older : List Placed
  pub newer : List JournalRecord
  pub bodies : List Body
  pub more : List Body
  pub newest : IsNewest old r g last older newer
  pub whole : journal ≡ older ++ map (in_generation (suc g)) newer
  pub before : records (old (journal_file (suc g) r)) ≡ Some bodies
  pub after : records (new (journal_file (suc g) r)) ≡ Some (bodies ++ more)
  pub spelled : AllZip IsJournalBody more xs
  pub follows : MayFollow r (suc g) last newer xs
