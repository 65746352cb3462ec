-- The parts of an entry in the journals of their regions.
use Rattle.std.proofs.Common.{◌≡◌, ◌≤◌, ◌<◌, ◌||◌, ℕ, zero, suc, Bool, true, false, List, [], ◌++◌, length, take, Some, None, Option, option_map, refl, sym, ◌∙◌, ap, subst, arith, append-nil}
use Rattle.std.specs.Prelude.{slice_get, is_some, IsTrue}
use Rattle.disk_defs.specs.Disk.{View, IsLawful, AtEachMoment}
use Rattle.disk_defs.specs.Frames.{Only, OnlyIn, OnlyOn, OthersStay}
use Rattle.disk_defs.proofs.Moments.{only_started, only_weaker}
use Rattle.journal_defs.specs.Numbers.{journal_file}
use Rattle.journal_defs.specs.Journal.{JournalRecord, IsJournalBody}
use Rattle.journal_defs.specs.Stands.{Holds}
use Rattle.jnl_file.specs.Records.{Recorded, StandsRecords, appended}
use Rattle.jnl_file.specs.Journal as files
use Rattle.tp_commit.specs.Parts.{PartRecords}
use Rattle.region_journals.specs.declared.journals.RegionJournal.{RegionJournal}
use Rattle.region_journals.specs.Fronts.{IsNewestFile, HasFirst}
use Rattle.region_journals.specs.Journals.{HasSyncs, AreReady, KeepsJournals, ArePrepared, part_in, listed}
use Rattle.region_journals.specs.Turns.{Turned, AllTurned}
use Rattle.region_journals.specs.Entering.{IsPartPrepared, HasTaken, Takes, with_part}
use Rattle.region_journals.proofs.Turns as turns
use Rattle.region_journals.proofs.Turns.{HasCome, same_place}
use Rattle.region_journals.proofs.Moments as moments
use Rattle.region_journals.proofs.Moments.{Have}
use Rattle.region_journals.proofs.Rounds.{stands_in}

or_false : (b : Bool) → (b || false) ≡ b
or_false true = refl
or_false false = refl

or_true : (b : Bool) → (b || true) ≡ true
or_true true = refl
or_true false = refl

-- neither was something appended nor is there a part
neither : (b : Bool) (p : Option JournalRecord) → (b || is_some p) ≡ false → (b ≡ false) × (p ≡ None)
neither true p isnt = absurd (cc isnt)
neither false None isnt = (refl, refl)
neither false (Some what) isnt = absurd (cc isnt)

-- a region without a part
pub none_taken : (v : View) (parts : PartRecords) (r : ℕ) (x : RegionJournal) → part_in parts r ≡ None → files.IsReady v x.journal → (IsTrue x.appended → HasSyncs x.journal) → Turned v v (HasTaken parts) (Takes parts) r x x
none_taken v parts r x none ready goes_on = record {
  ready = ready;
  same = record { region = refl; generation = refl; file = refl };
  facts = record { goes_on = goes_on; appended = sym (ap (λ (p : Option JournalRecord). x.appended || is_some p) none ∙ or_false x.appended) };
  state = λ s t takes has. subst (λ (q : Recorded). files.HasRecords v x.journal q) (sym (takes ∙ ap (λ (p : Option JournalRecord). with_part p s) none)) has;
}

-- and one with a part
pub part_taken : (v w : View) (parts : PartRecords) (r : ℕ) (x y : RegionJournal) (what : JournalRecord) → part_in parts r ≡ Some what → IsPartPrepared parts r x → y.appended ≡ true → files.IsReady w y.journal → files.IsSameJournal x.journal y.journal
    → y.journal.gated.syncs_left ≡ x.journal.gated.syncs_left → ((q : JournalRecord) (s : Recorded) → files.IsPrepared x.journal q → files.HasRecords v x.journal s → files.HasRecords w y.journal (appended s q))
    → Turned v w (HasTaken parts) (Takes parts) r x y
part_taken v w parts r x y what part prepared flag ready same syncs state = record {
  ready = ready;
  same = same;
  facts = record {
    goes_on = λ yes. (let room : 2 ≤ x.journal.gated.syncs_left = (prepared what part).1 in omega (arith, syncs, room));
    appended = flag ∙ sym (ap (λ (p : Option JournalRecord). x.appended || is_some p) part ∙ or_true x.appended);
  };
  state = λ s t takes has. subst (λ (q : Recorded). files.HasRecords w y.journal q) (sym (takes ∙ ap (λ (p : Option JournalRecord). with_part p s) part)) (state what s (prepared what part).0 has);
}

pub part_is : {X : Type 0} (f : X → JournalRecord) (o : Option X) (p : Option JournalRecord) (x : X) → option_map f o ≡ p → o ≡ Some x → p ≡ Some (f x)
part_is f o p x value is = sym value ∙ ap (option_map f) is

pub no_part_is : {X : Type 0} (f : X → JournalRecord) (o : Option X) (p : Option JournalRecord) → option_map f o ≡ p → o ≡ None → p ≡ None
no_part_is f o p value is = sym value ∙ ap (option_map f) is

-- nothing was done yet
pub none_appended : (v : View) (x : RegionJournal) (hard waiting : List JournalRecord) → files.HasRecords v x.journal (record { hard = hard; opening = []; closed = waiting })
    → AtEachMoment v v (OnlyOn v x.journal.gated.file (StandsRecords hard []))
none_appended v x hard waiting has = only_started v (Only x.journal.gated.file) (λ c. StandsRecords hard [] (c x.journal.gated.file)) (stands_in v x.journal (record { hard = hard; opening = []; closed = waiting }) has)

-- over the regions
pub entry_begins : (u : View) (g : ℕ) (old : List RegionJournal) (hard waiting : ℕ → List JournalRecord) → AreReady u g old → KeepsJournals u hard waiting old
    → AtEachMoment u u (OnlyIn u (IsNewestFile g (length old)) (Have g (length old) (λ r. StandsRecords (hard r) [])))
entry_begins u g old hard waiting ready keeps = only_started u (IsNewestFile g (length old)) (Have g (length old) (λ r. StandsRecords (hard r) [])) (λ c now r there.
    let x = turns.found old r there in
    subst (λ (f : ℕ). StandsRecords (hard r) [] (c f)) (ready.each r x.0 x.1).of.file (stands_in u x.0.journal (record { hard = hard r; opening = []; closed = waiting r }) (keeps.has r x.0 x.1) c now))

module _ (parts : PartRecords) (u v w : View) (k : ℕ) (old js : List RegionJournal) (y : RegionJournal) (come : HasCome u v (HasTaken parts) (Takes parts) k old js) (at : slice_get js k ≡ Some y) (there : k < length old) where
  pub entry_moments : IsLawful v → ((hard waiting : List JournalRecord) → files.HasRecords v y.journal (record { hard = hard; opening = []; closed = waiting }) → AtEachMoment v w (OnlyOn v y.journal.gated.file (StandsRecords hard [])))
      → (g : ℕ) (hard waiting : ℕ → List JournalRecord) → AreReady u g old → KeepsJournals u hard waiting old
      → AtEachMoment u v (OnlyIn u (IsNewestFile g (length old)) (Have g (length old) (λ r. StandsRecords (hard r) []))) → AtEachMoment u w (OnlyIn u (IsNewestFile g (length old)) (Have g (length old) (λ r. StandsRecords (hard r) [])))
  entry_moments lawful call g hard waiting ready keeps so_far =
      moments.moments_on u v w g (length old) k y.journal.gated.file ready.few there (turns.file_at (HasTaken parts) (Takes parts) u v g HasSyncs k old js ready come k y at) (λ r. StandsRecords (hard r) []) lawful so_far
      (call (hard k) (waiting k) (turns.next_has (HasTaken parts) (Takes parts) u v g HasSyncs k old js ready come y (record { hard = hard k; opening = []; closed = waiting k }) at (λ x was. keeps.has k x was)))

  pub entry_frame : (g : ℕ) → AreReady u g old → OthersStay (IsNewestFile g (length old)) u v → OthersStay (Only y.journal.gated.file) v w → OthersStay (IsNewestFile g (length old)) u w
  entry_frame g ready so_far call = moments.frame_on u v w g (length old) k y.journal.gated.file ready.few there (turns.file_at (HasTaken parts) (Takes parts) u v g HasSyncs k old js ready come k y at) so_far call

  pub next_prepared : ArePrepared parts old → IsPartPrepared parts k y
  next_prepared prepared what part =
      let was = same_place old js k y come.count at in
      let left = (come.each k y at).left was.0 was.1 (omega arith) in
      subst (λ (q : RegionJournal). files.IsPrepared q.journal what × HasSyncs q.journal) (sym left.same) (prepared k was.0 what was.1 part)

-- afterwards
pub ready_entered : (u v : View) (parts : PartRecords) (g : ℕ) (old new : List RegionJournal) → length new ≡ length old → AreReady u g old → AllTurned u v (HasTaken parts) (Takes parts) old new → AreReady v g new
ready_entered u v parts g old new count ready turned = record {
  few = let few = ready.few in omega (arith, few, count);
  each = λ r y is.
      let x = same_place old new r y count is in
      let t = turned r x.0 y x.1 is in
      let of = (ready.each r x.0 x.1).of in
      record {
        ready = t.ready;
        of = record { region = t.same.region ∙ of.region; generation = t.same.generation ∙ of.generation; file = t.same.file ∙ of.file };
        goes_on = t.facts.goes_on;
      };
}

with_more : (hard waiting : List JournalRecord) (p : Option JournalRecord) → record { hard = hard; opening = []; closed = waiting ++ listed p } ≡ with_part p (record { hard = hard; opening = []; closed = waiting })
with_more hard waiting None = λ i. record { hard = hard; opening = []; closed = append-nil waiting i }
with_more hard waiting (Some what) = refl

pub keeps_entered : (u v : View) (parts : PartRecords) (hard waiting : ℕ → List JournalRecord) (old new : List RegionJournal) → length new ≡ length old → AllTurned u v (HasTaken parts) (Takes parts) old new → KeepsJournals u hard waiting old
    → KeepsJournals v hard (λ r. waiting r ++ listed (part_in parts r)) new
keeps_entered u v parts hard waiting old new count turned keeps = record {
  has = λ r y is.
      let x = same_place old new r y count is in
      (turned r x.0 y x.1 is).state (record { hard = hard r; opening = []; closed = waiting r }) (record { hard = hard r; opening = []; closed = waiting r ++ listed (part_in parts r) }) (with_more (hard r) (waiting r) (part_in parts r)) (keeps.has r x.0 x.1);
  none_waits = λ r y is isnt.
      let x = same_place old new r y count is in
      let t = turned r x.0 y x.1 is in
      let none = neither x.0.appended (part_in parts r) (sym t.facts.appended ∙ isnt) in
      ap (λ (p : Option JournalRecord). waiting r ++ listed p) none.1 ∙ append-nil (waiting r) ∙ keeps.none_waits r x.0 x.1 none.0;
}

-- no image has any of those that wait
none_few : (rs : List JournalRecord) (file : List ℕ) → StandsRecords rs [] file → Holds IsJournalBody file (rs ++ [])
none_few rs file stands = subst (λ (l : List JournalRecord). Holds IsJournalBody file (rs ++ l)) (none_of stands.0) stands.2
  where
    none_of : (m : ℕ) → take {A = JournalRecord} m [] ≡ []
    none_of zero = refl
    none_of (suc m) = refl

pub none_first : (v w : View) (g n : ℕ) (hard waiting : ℕ → List JournalRecord) → AtEachMoment v w (OnlyIn v (IsNewestFile g n) (Have g n (λ r. StandsRecords (hard r) []))) → AtEachMoment v w (OnlyIn v (IsNewestFile g n) (HasFirst g n hard waiting (λ r. 0)))
none_first v w g n hard waiting run =
    only_weaker v w (IsNewestFile g n) (Have g n (λ r. StandsRecords (hard r) [])) (HasFirst g n hard waiting (λ r. 0)) (λ c have. record { each = λ r there. none_few (hard r) (c (journal_file g r)) (have r there) }) run
