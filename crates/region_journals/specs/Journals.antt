-- A site's newest journals, by region.
use Rattle.std.specs.Prelude.{◌≡◌, ◌≤◌, ℕ, ◌+◌, Bool, false, List, [], ◌∷◌, length, get_or, slice_get, Option, Some, None, IsTrue}
use Rattle.global_defs.specs.declared.limits.TheConstants.{MOST_REGIONS}
use Rattle.disk_defs.specs.Disk.{View}
use Rattle.journal_defs.specs.Journal.{JournalRecord}
use Rattle.jnl_file.specs.Journal as journals
use Rattle.jnl_file.specs.declared.journal.Journal.{Journal}
use Rattle.tp_commit.specs.Parts.{PartRecords}
use Rattle.region_journals.specs.declared.journals.RegionJournal.{RegionJournal}

-- A region's journal of generation g is open for calls, and where something was appended since the last hardening, it can go on as P says.
pub record IsOpen (v : View) (g : ℕ) (P : Journal → Type 0) (r : ℕ) (x : RegionJournal) : Type 0 where
  pub ready : journals.IsReady v x.journal
  pub of : journals.IsJournalOf x.journal r g
  pub goes_on : IsTrue x.appended → P x.journal

-- the same of each region's
pub record AreOpen (v : View) (g : ℕ) (P : Journal → Type 0) (js : List RegionJournal) : Type 0 where
  pub few : length js ≤ MOST_REGIONS
  pub each : (r : ℕ) (x : RegionJournal) → slice_get js r ≡ Some x → IsOpen v g P r x

-- there is room for the syncs of a hardening
abbrev pub HasSyncs : Journal → Type 0
HasSyncs j = 2 ≤ j.gated.syncs_left

-- The journals are open for calls: they are those of generation g, and can be hardened.
abbrev pub AreReady : View → ℕ → List RegionJournal → Type 0
AreReady v g js = AreOpen v g HasSyncs js

-- Each region's journal has these hardened records, and these wait behind closed gates, none where nothing was appended since the last hardening.
pub record KeepsJournals (v : View) (hard waiting : ℕ → List JournalRecord) (js : List RegionJournal) : Type 0 where
  pub has : (r : ℕ) (x : RegionJournal) → slice_get js r ≡ Some x → journals.HasRecords v x.journal (record { hard = hard r; opening = []; closed = waiting r })
  pub none_waits : (r : ℕ) (x : RegionJournal) → slice_get js r ≡ Some x → x.appended ≡ false → waiting r ≡ []

-- the record of a region's part, where it has one
abbrev pub part_in : PartRecords → ℕ → Option JournalRecord
part_in parts r = get_or parts.records r None

-- as a list
abbrev pub listed : Option JournalRecord → List JournalRecord
listed None = []
listed (Some what) = what ∷ []

-- Each region that has a part can append it, and harden it then.
abbrev pub ArePrepared : PartRecords → List RegionJournal → Type 0
ArePrepared parts js = (r : ℕ) (x : RegionJournal) (what : JournalRecord) → slice_get js r ≡ Some x → part_in parts r ≡ Some what → journals.IsPrepared x.journal what × HasSyncs x.journal

-- Of each region's journal it says whether something was appended since the last hardening, by what it said before.
abbrev pub AreMarked : (ℕ → Bool → Bool) → List RegionJournal → List RegionJournal → Type 0
AreMarked mark old new = (r : ℕ) (x y : RegionJournal) → slice_get old r ≡ Some x → slice_get new r ≡ Some y → y.appended ≡ mark r x.appended

-- What a hardening does to a journal: it syncs it twice where something was appended, and leaves it alone where nothing was.
pub record IsHardened (x y : RegionJournal) : Type 0 where
  pub none_appended : y.appended ≡ false
  pub two_syncs : IsTrue x.appended → y.journal.gated.syncs_left + 2 ≡ x.journal.gated.syncs_left
  pub left_alone : x.appended ≡ false → y ≡ x
