-- How far the journal of one generation is read, with another one before it.
use Rattle.std.specs.Prelude.{◌≡◌, ℕ, List, ◌++◌, length, map}
use Rattle.std.specs.Option.{option_map}
use Rattle.std.specs.List.{AllZip}
use Rattle.disk_defs.specs.Gates.{Body, bodies_at, records, spelled}
use Rattle.journal_defs.specs.Journal.{JournalRecord, IsJournalBody, BeginsWithPini}
use Rattle.journal_defs.specs.Sequence.{Placed}
use Rattle.journal_defs.specs.Stands.{last_began, in_generation}

-- Up to this place stand records of such a journal, which were added to a list.
pub record Reached (region generation previous : ℕ) (file : List ℕ) (at : ℕ) (old new : List Placed) (began : ℕ) : Type 0 where
  pub done : List Body
  pub list : records file ≡ option_map (λ rest. done ++ rest) (bodies_at file at)
  pub place : at ≡ length (spelled 1 done)
  pub earlier : List JournalRecord
  pub spelled_done : AllZip IsJournalBody done earlier
  pub begins : BeginsWithPini region generation previous earlier
  pub began_is : began ≡ last_began previous generation earlier
  pub whole : new ≡ old ++ map (in_generation generation) earlier
