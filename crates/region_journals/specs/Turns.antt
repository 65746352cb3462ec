-- Calls that go over the regions, one after another.
use Rattle.std.specs.Prelude.{◌≡◌, ℕ, List, slice_get, Some}
use Rattle.disk_defs.specs.Disk.{View}
use Rattle.jnl_file.specs.Records.{Recorded}
use Rattle.jnl_file.specs.Journal as journals
use Rattle.region_journals.specs.declared.journals.RegionJournal.{RegionJournal}

-- A call has been at a region's journal: it has F of what it was and is, and where it may go from one state to another, it has.
pub record Turned (u v : View) (F : ℕ → RegionJournal → RegionJournal → Type 0) (S : ℕ → RegionJournal → Recorded → Recorded → Type 0) (r : ℕ) (x y : RegionJournal) : Type 0 where
  pub ready : journals.IsReady v y.journal
  pub same : journals.IsSameJournal x.journal y.journal
  pub facts : F r x y
  pub state : (s t : Recorded) → S r x s t → journals.HasRecords u x.journal s → journals.HasRecords v y.journal t

-- It has been at each region's.
abbrev pub AllTurned : View → View → (ℕ → RegionJournal → RegionJournal → Type 0) → (ℕ → RegionJournal → Recorded → Recorded → Type 0) → List RegionJournal → List RegionJournal → Type 0
AllTurned u v F S old new = (r : ℕ) (x y : RegionJournal) → slice_get old r ≡ Some x → slice_get new r ≡ Some y → Turned u v F S r x y
