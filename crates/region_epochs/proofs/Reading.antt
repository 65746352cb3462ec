-- Journals across a call that reads.
use Rattle.std.proofs.Common.{◌≡◌, ℕ, List, [], length, Some, subst}
use Rattle.std.specs.Prelude.{slice_get}
use Rattle.disk_defs.specs.Disk.{View, IsLawful, AtEachMoment, Reads}
use Rattle.disk_defs.specs.Frames.{OnlyIn, OthersStay}
use Rattle.disk_defs.proofs.Frames.{others_read, others_then}
use Rattle.disk_defs.proofs.Moments.{read_only, nothing_new, only_then}
use Rattle.journal_defs.specs.Numbers.{journal_file}
use Rattle.journal_defs.specs.Journal.{JournalRecord}
use Rattle.jnl_file.proofs.Others as others
use Rattle.region_journals.specs.declared.journals.RegionJournal.{RegionJournal}
use Rattle.region_journals.specs.Fronts.{IsNewestFile, HasFirst}
use Rattle.region_journals.specs.Journals.{AreReady, KeepsJournals}
use Rattle.region_journals.proofs.Entered.{entry_begins, none_first}

module _ (u v : View) (reads : Reads u v) where
  none_changed : OthersStay (λ f. ⊥) u v
  none_changed = others_read (λ f. ⊥) u v reads

  pub ready_reads : (g : ℕ) (js : List RegionJournal) → AreReady u g js → AreReady v g js
  ready_reads g js ready = record {
    few = ready.few;
    each = λ r x is. let o = ready.each r x is in record { ready = others.ready_stays u v (λ f. ⊥) x.journal none_changed (λ no. no) o.ready; of = o.of; goes_on = o.goes_on };
  }

  pub keeps_reads : (hard waiting : ℕ → List JournalRecord) (js : List RegionJournal) → KeepsJournals u hard waiting js → KeepsJournals v hard waiting js
  keeps_reads hard waiting js keeps = record {
    has = λ r x is. others.records_stay u v (λ f. ⊥) x.journal none_changed (λ no. no) _ (keeps.has r x is);
    none_waits = keeps.none_waits;
  }

-- where nothing was done yet, each journal has its hardened records
pub begins : (u : View) (g : ℕ) (js : List RegionJournal) (hard waiting : ℕ → List JournalRecord) → AreReady u g js → KeepsJournals u hard waiting js
    → AtEachMoment u u (OnlyIn u (IsNewestFile g (length js)) (HasFirst g (length js) hard waiting (λ r. 0)))
begins u g js hard waiting ready keeps = none_first u u g (length js) hard waiting (entry_begins u g js hard waiting ready keeps)

pub begins_reading : (u v : View) (g : ℕ) (js : List RegionJournal) (hard waiting : ℕ → List JournalRecord) → IsLawful u → Reads u v → AreReady u g js → KeepsJournals u hard waiting js
    → AtEachMoment u v (OnlyIn u (IsNewestFile g (length js)) (HasFirst g (length js) hard waiting (λ r. 0)))
begins_reading u v g js hard waiting lawful reads ready keeps =
    nothing_new u u v (OnlyIn u (IsNewestFile g (length js)) (HasFirst g (length js) hard waiting (λ r. 0))) lawful (begins u g js hard waiting ready keeps) (read_only u v reads)

-- one call more, which has none of those that wait on the disk
pub first_then : (u v w : View) (g n : ℕ) (hard waiting more : ℕ → List JournalRecord) → IsLawful v → AtEachMoment u v (OnlyIn u (IsNewestFile g n) (HasFirst g n hard waiting (λ r. 0)))
    → AtEachMoment v w (OnlyIn v (IsNewestFile g n) (HasFirst g n hard more (λ r. 0))) → AtEachMoment u w (OnlyIn u (IsNewestFile g n) (HasFirst g n hard waiting (λ r. 0)))
first_then u v w g n hard waiting more lawful so_far call =
    only_then u v w (IsNewestFile g n) (IsNewestFile g n) (HasFirst g n hard waiting (λ r. 0)) (HasFirst g n hard more (λ r. 0)) lawful (λ f is. is) so_far call
    (λ d c was have same here. record { each = here.each })

-- one call that reads, and one that appends
module _ (u v w : View) (g : ℕ) (js : List RegionJournal) (reads : Reads u v) where
  pub then_frame : OthersStay (IsNewestFile g (length js)) v w → OthersStay (IsNewestFile g (length js)) u w
  then_frame frame = others_then (IsNewestFile g (length js)) u v w (others_read (IsNewestFile g (length js)) u v reads) frame

  pub then_moments : (hard waiting : ℕ → List JournalRecord) → IsLawful u → IsLawful v → AreReady u g js → KeepsJournals u hard waiting js
      → AtEachMoment v w (OnlyIn v (IsNewestFile g (length js)) (HasFirst g (length js) hard waiting (λ r. 0)))
      → AtEachMoment u w (OnlyIn u (IsNewestFile g (length js)) (HasFirst g (length js) hard waiting (λ r. 0)))
  then_moments hard waiting first second ready keeps call =
      first_then u v w g (length js) hard waiting waiting second (begins_reading u v g js hard waiting first reads ready keeps) call

-- of as many journals
pub moments_as : (v w : View) (g : ℕ) (hard waiting : ℕ → List JournalRecord) (m n : ℕ) → m ≡ n → AtEachMoment v w (OnlyIn v (IsNewestFile g m) (HasFirst g m hard waiting (λ r. 0)))
    → AtEachMoment v w (OnlyIn v (IsNewestFile g n) (HasFirst g n hard waiting (λ r. 0)))
moments_as v w g hard waiting m n is run = subst (λ (k : ℕ). AtEachMoment v w (OnlyIn v (IsNewestFile g k) (HasFirst g k hard waiting (λ r. 0)))) is run

pub frame_as : (v w : View) (g m n : ℕ) → m ≡ n → OthersStay (IsNewestFile g m) v w → OthersStay (IsNewestFile g n) v w
frame_as v w g m n is frame = subst (λ (k : ℕ). OthersStay (IsNewestFile g k) v w) is frame

-- journals across a call that changes other files
module _ (F : ℕ → Type 0) (u v : View) (g : ℕ) (js : List RegionJournal) (stays : OthersStay F u v) (ready : AreReady u g js) (out : (r : ℕ) → F (journal_file g r) → ⊥) where
  beside : (r : ℕ) (x : RegionJournal) → slice_get js r ≡ Some x → F x.journal.gated.file → ⊥
  beside r x is there = out r (subst F (ready.each r x is).of.file there)

  pub ready_beside : AreReady v g js
  ready_beside = record {
    few = ready.few;
    each = λ r x is. let o = ready.each r x is in record { ready = others.ready_stays u v F x.journal stays (beside r x is) o.ready; of = o.of; goes_on = o.goes_on };
  }

  pub keeps_beside : (hard waiting : ℕ → List JournalRecord) → KeepsJournals u hard waiting js → KeepsJournals v hard waiting js
  keeps_beside hard waiting keeps = record {
    has = λ r x is. others.records_stay u v F x.journal stays (beside r x is) (record { hard = hard r; opening = []; closed = waiting r }) (keeps.has r x is);
    none_waits = keeps.none_waits;
  }
