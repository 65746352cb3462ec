-- An entry on its way into the journals of its regions.
use Rattle.std.specs.Prelude.{◌≡◌, ◌||◌, ℕ, Option, Some, None, is_some, IsTrue}
use Rattle.jnl_file.specs.Records.{Recorded, appended}
use Rattle.jnl_file.specs.Journal as journals
use Rattle.journal_defs.specs.Journal.{JournalRecord}
use Rattle.tp_commit.specs.Parts.{PartRecords}
use Rattle.region_journals.specs.Journals.{HasSyncs, part_in}
use Rattle.region_journals.specs.declared.journals.RegionJournal.{RegionJournal}

-- the journal can append the region's part, and harden it then
abbrev pub IsPartPrepared : PartRecords → ℕ → RegionJournal → Type 0
IsPartPrepared parts r x = (what : JournalRecord) → part_in parts r ≡ Some what → journals.IsPrepared x.journal what × HasSyncs x.journal

-- What preparing leaves as it was.
pub record IsUnchanged (r : ℕ) (x y : RegionJournal) : Type 0 where
  pub appended : y.appended ≡ x.appended
  pub goes_on : IsTrue y.appended → HasSyncs y.journal

-- the records stay
abbrev pub Stays : ℕ → RegionJournal → Recorded → Recorded → Type 0
Stays r x s t = t ≡ s

-- What appending a region's part does, where it has one.
pub record HasTaken (parts : PartRecords) (r : ℕ) (x y : RegionJournal) : Type 0 where
  pub goes_on : IsTrue y.appended → HasSyncs y.journal
  pub appended : y.appended ≡ (x.appended || is_some (part_in parts r))

-- with the region's part behind those that wait
abbrev pub with_part : Option JournalRecord → Recorded → Recorded
with_part None s = s
with_part (Some what) s = appended s what

abbrev pub Takes : PartRecords → ℕ → RegionJournal → Recorded → Recorded → Type 0
Takes parts r x s t = t ≡ with_part (part_in parts r) s
