-- What stays of an open site while other files change.
use Rattle.std.proofs.Common.{◌≡◌, ℕ, List, [], Option, Some, None, IfSome, IsSomeAnd, sym, subst}
use Rattle.std.specs.Prelude.{slice_get}
use Rattle.disk_defs.specs.Disk.{Files, View, ReadsAfter}
use Rattle.disk_defs.specs.Frames.{SameOutside, OthersStay}
use Rattle.gated_file.specs.State.{State, settled}
use Rattle.gated_file.specs.Gated as gates
use Rattle.gated_file.proofs.Others as others
use Rattle.journal_defs.specs.Numbers.{INSTANCE}
use Rattle.journal_defs.specs.Instance.{InstanceRecord}
use Rattle.journal_defs.specs.Stands.{IsInstance}
use Rattle.instance_file.specs.Instance.{HoldsRecords, HasRecords, IsReady}
use Rattle.instance_file.specs.declared.instance.Instance.{Instance}
use Rattle.jnl_file.proofs.Others as journals
use Rattle.journal_defs.specs.Journal.{JournalRecord}
use Rattle.region_journals.specs.declared.journals.RegionJournal.{RegionJournal}
use Rattle.region_journals.specs.Journals.{AreReady, KeepsJournals}

-- an instance file
module _ (v w : View) (F : ℕ → Type 0) (i : Instance) (stays : OthersStay F v w) (ne : F INSTANCE → ⊥) where
  holds_still : (rs : List InstanceRecord) (a b : Files) → HoldsRecords v i rs a → SameOutside F a b → ((s : State) → gates.Holds v i.gated s a → gates.Holds w i.gated s b) → HoldsRecords w i rs b
  holds_still rs a b h same goes = record {
    kept = h.kept;
    reads = subst (λ (l : List ℕ). IsInstance l rs) (sym (same INSTANCE ne)) h.reads;
    stands = λ c now. let from = stays.images c now in subst (λ (l : List ℕ). IsInstance l rs) (sym (from.2 INSTANCE ne)) (h.stands from.0 from.1);
    file = h.file;
    bodies = h.bodies;
    held = goes (settled h.bodies) h.held;
    spelled = h.spelled;
  }

  away : i.gated.file ≡ INSTANCE → F i.gated.file → ⊥
  away is out = ne (subst F is out)

  among : (rs : List InstanceRecord) (o n : Option Files) → ReadsAfter (SameOutside F) o n → IsSomeAnd o (HoldsRecords v i rs)
      → (i.gated.file ≡ INSTANCE → (s : State) → IsSomeAnd o (gates.Holds v i.gated s) → IsSomeAnd n (gates.Holds w i.gated s)) → IsSomeAnd n (HoldsRecords w i rs)
  among rs None n after has goes = absurd has
  among rs (Some a) None after has goes = absurd after
  among rs (Some a) (Some b) after has goes = holds_still rs a b has after (goes has.file)

  pub records_stay : (rs : List InstanceRecord) → HasRecords v i rs → HasRecords w i rs
  records_stay rs has = among rs v.content w.content stays.content has (λ is. others.state_stays v w F i.gated stays (away is))

  ready_among : (o n : Option Files) → ReadsAfter (SameOutside F) o n → IfSome o (HoldsRecords v i i.records)
      → (i.gated.file ≡ INSTANCE → (s : State) → IsSomeAnd o (gates.Holds v i.gated s) → IsSomeAnd n (gates.Holds w i.gated s)) → IfSome n (HoldsRecords w i i.records)
  ready_among None n after has goes = subst (λ (x : Option Files). IfSome x (HoldsRecords w i i.records)) (sym after) tt
  ready_among (Some a) None after has goes = absurd after
  ready_among (Some a) (Some b) after has goes = holds_still i.records a b has after (goes has.file)

  pub ready_stays : IsReady v i → IsReady w i
  ready_stays ready = record {
    file = ready.file;
    gated = others.ready_stays v w F i.gated stays (away ready.file) ready.gated;
    state = ready_among v.content w.content stays.content ready.state (λ is. others.state_stays v w F i.gated stays (away is));
  }

-- the newest journals
abbrev pub AreAway : (ℕ → Type 0) → List RegionJournal → Type 0
AreAway F js = (r : ℕ) (x : RegionJournal) → slice_get js r ≡ Some x → F x.journal.gated.file → ⊥

module _ (v w : View) (F : ℕ → Type 0) (js : List RegionJournal) (stays : OthersStay F v w) (away : AreAway F js) where
  pub journals_ready : (g : ℕ) → AreReady v g js → AreReady w g js
  journals_ready g ready = record {
    few = ready.few;
    each = λ r x is. let was = ready.each r x is in record { ready = journals.ready_stays v w F x.journal stays (away r x is) was.ready; of = was.of; goes_on = was.goes_on };
  }

  pub journals_keep : (hard waiting : ℕ → List JournalRecord) → KeepsJournals v hard waiting js → KeepsJournals w hard waiting js
  journals_keep hard waiting kept = record {
    has = λ r x is. journals.records_stay v w F x.journal stays (away r x is) (record { hard = hard r; opening = []; closed = waiting r }) (kept.has r x is);
    none_waits = kept.none_waits;
  }
