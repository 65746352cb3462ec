-- Hardening in rounds: each is done in all regions before the next one begins.
use Rattle.std.specs.Prelude.{◌≡◌, ◌≤◌, ℕ, ◌+◌, Bool, false, List, [], IsTrue}
use Rattle.journal_defs.specs.Journal.{JournalRecord}
use Rattle.jnl_file.specs.Records.{Recorded, synced, opened}
use Rattle.jnl_file.specs.Journal.{IsSynced}
use Rattle.jnl_file.specs.declared.journal.Journal.{Journal}
use Rattle.region_journals.specs.Journals.{HasSyncs}
use Rattle.region_journals.specs.declared.hardening.Round.{Round}
use Rattle.region_journals.specs.declared.hardening.Round.TheVariants.{SyncBodies, OpenGates, SyncGates}
use Rattle.region_journals.specs.declared.journals.RegionJournal.{RegionJournal}

-- what a journal has before a round, where something was appended to it
abbrev pub Before : Round → Journal → Type 0
Before SyncBodies j = HasSyncs j
Before OpenGates j = (1 ≤ j.gated.syncs_left) × IsSynced j
Before SyncGates j = 1 ≤ j.gated.syncs_left

-- and after it; after the last round nothing has been appended
abbrev pub After : Round → Journal → Type 0
After SyncBodies j = Before OpenGates j
After OpenGates j = Before SyncGates j
After SyncGates j = ⊥

-- how many syncs it takes
abbrev pub syncs_in : Round → ℕ
syncs_in SyncBodies = 1
syncs_in OpenGates = 0
syncs_in SyncGates = 1

abbrev pub still_appended : Round → Bool → Bool
still_appended SyncBodies appended = appended
still_appended OpenGates appended = appended
still_appended SyncGates appended = false

-- What a round does to a journal.
pub record HasDone (round : Round) (r : ℕ) (x y : RegionJournal) : Type 0 where
  pub appended : y.appended ≡ still_appended round x.appended
  pub goes_on : IsTrue y.appended → After round y.journal
  pub syncs : IsTrue x.appended → y.journal.gated.syncs_left + syncs_in round ≡ x.journal.gated.syncs_left
  pub left_alone : x.appended ≡ false → y ≡ x

-- what the records become
abbrev pub after : Round → Recorded → Recorded
after SyncBodies s = synced s
after OpenGates s = opened s
after SyncGates s = synced s

-- where nothing was appended, no record waits
pub record Becomes (round : Round) (r : ℕ) (x : RegionJournal) (s t : Recorded) : Type 0 where
  pub no_opening : x.appended ≡ false → s.opening ≡ []
  pub no_closed : x.appended ≡ false → s.closed ≡ []
  pub is : t ≡ after round s

-- a journal's records before a round, of those that wait
abbrev pub before : Round → List JournalRecord → List JournalRecord → Recorded
before SyncBodies hard waiting = record { hard = hard; opening = []; closed = waiting }
before OpenGates hard waiting = record { hard = hard; opening = []; closed = waiting }
before SyncGates hard waiting = record { hard = hard; opening = waiting; closed = [] }
