-- Preparing the parts of an entry leaves the journals as they are.
use Rattle.std.proofs.Common.{◌≡◌, ◌≤◌, ◌<◌, ◌+◌, ℕ, List, [], length, set, Some, None, Option, inl, inr, refl, sym, ◌∙◌, subst, arith}
use Rattle.std.specs.Prelude.{slice_get, IsTrue, Result, Ok, Err, OnOk, OnErr}
use Rattle.std.proofs.lemmas.Bool.{cases_lt}
use Rattle.std.proofs.lemmas.Option.{slice_get_within}
use Rattle.disk_defs.specs.Disk.{View}
use Rattle.journal_defs.specs.Journal.{JournalRecord}
use Rattle.jnl_file.specs.Records.{Recorded}
use Rattle.jnl_file.specs.Journal as files
use Rattle.jnl_file.specs.declared.journal.Journal.{Journal}
use Rattle.tp_commit.specs.Parts.{PartRecords}
use Rattle.region_journals.specs.declared.journals.RegionJournal.{RegionJournal}
use Rattle.region_journals.specs.Journals.{HasSyncs, AreReady, KeepsJournals, ArePrepared, part_in}
use Rattle.region_journals.specs.Turns.{Turned, AllTurned}
use Rattle.region_journals.specs.Entering.{IsPartPrepared, IsUnchanged, Stays}
use Rattle.region_journals.proofs.Turns.{HasCome, Left, same_place, moved}

pub unturned : (u v : View) (r : ℕ) (x y : RegionJournal) → Left u v x y → files.IsReady u x.journal → (IsTrue x.appended → HasSyncs x.journal) → Turned u v IsUnchanged Stays r x y
unturned u v r x y left ready goes_on = record {
  ready = left.ready ready;
  same = subst (λ (q : RegionJournal). files.IsSameJournal x.journal q.journal) (sym left.same) (record { region = refl; generation = refl; file = refl });
  facts = subst (λ (q : RegionJournal). IsUnchanged r x q) (sym left.same) (record { appended = refl; goes_on = goes_on });
  state = λ s t stays has. subst (λ (q : Recorded). files.HasRecords v y.journal q) (sym stays) (left.state s has);
}

pub still_same : (v : View) (r : ℕ) (x : RegionJournal) → files.IsReady v x.journal → (IsTrue x.appended → HasSyncs x.journal) → Turned v v IsUnchanged Stays r x x
still_same v r x ready goes_on = unturned v v r x x (record { same = refl; ready = λ q. q; state = λ s has. has }) ready goes_on

-- wherever it stopped
pub all_same : (u v : View) (g k : ℕ) (old new : List RegionJournal) → AreReady u g old → HasCome u v IsUnchanged Stays k old new → AllTurned u v IsUnchanged Stays old new
all_same u v g k old new ready come r x y was is = elim (cases_lt r k) [
  | inl low ↦ (come.each r y is).done x was low
  | inr high ↦ unturned u v r x y ((come.each r y is).left x was high) (ready.each r x was).ready (ready.each r x was).goes_on
]

-- one journal
pub syncs_kept : {T E : Type 0} (result : Result T E) (old new : Journal) → OnOk result (new.gated.syncs_left ≡ old.gated.syncs_left + 2) → OnErr result (files.SamePrepared old new) → HasSyncs old → HasSyncs new
syncs_kept (Ok x) old new ok err room = omega (arith, ok, room)
syncs_kept (Err e) old new ok err room = let same : new.gated.syncs_left ≡ old.gated.syncs_left = err.room.syncs in omega (arith, same, room)

pub one_same : {T E : Type 0} (v w : View) (r : ℕ) (x : RegionJournal) (k : Journal) (result : Result T E) → (IsTrue x.appended → HasSyncs x.journal) → files.IsReady w k → files.IsSameJournal x.journal k
    → OnOk result (k.gated.syncs_left ≡ x.journal.gated.syncs_left + 2) → OnErr result (files.SamePrepared x.journal k) → ((s : Recorded) → files.HasRecords v x.journal s → files.HasRecords w k s)
    → Turned v w IsUnchanged Stays r x (record { journal = k; appended = x.appended })
one_same v w r x k result goes_on ready same ok err state = record {
  ready = ready;
  same = same;
  facts = record { appended = refl; goes_on = λ yes. syncs_kept result x.journal k ok err (goes_on yes) };
  state = λ s t stays has. subst (λ (q : Recorded). files.HasRecords w k q) (sym stays) (state s has);
}

pub one_prepared : {T E : Type 0} (parts : PartRecords) (r : ℕ) (x : RegionJournal) (k : Journal) (result : Result T E) (what : JournalRecord) → part_in parts r ≡ Some what → OnOk result (files.IsPrepared k what)
    → OnOk result (k.gated.syncs_left ≡ x.journal.gated.syncs_left + 2) → OnOk result (IsPartPrepared parts r (record { journal = k; appended = x.appended }))
one_prepared parts r x k (Err e) what part ok syncs = tt
one_prepared parts r x k (Ok z) what part ok syncs = λ q is. (let same : what ≡ q = one_part part is in subst (files.IsPrepared k) same ok, omega (arith, syncs))
  where
    one_part : {o : Option JournalRecord} {a b : JournalRecord} → o ≡ Some a → o ≡ Some b → a ≡ b
    one_part p q = cc

pub none_prepared : (parts : PartRecords) (r : ℕ) (x : RegionJournal) → part_in parts r ≡ None → IsPartPrepared parts r x
none_prepared parts r x none what is = absurd (no_some none is)
  where
    no_some : {o : Option JournalRecord} {a : JournalRecord} → o ≡ None → o ≡ Some a → ⊥
    no_some p q = cc

-- those so far
abbrev pub PreparedTo : PartRecords → ℕ → List RegionJournal → Type 0
PreparedTo parts k js = (r : ℕ) (x : RegionJournal) → slice_get js r ≡ Some x → r < k → IsPartPrepared parts r x

pub prepared_on : (parts : PartRecords) (k : ℕ) (js : List RegionJournal) (y : RegionJournal) → PreparedTo parts k js → IsPartPrepared parts k y → PreparedTo parts (k + 1) (set js k y)
prepared_on parts k js y so_far here =
    moved (λ r x. r < k → IsPartPrepared parts r x) (λ r x. r < k + 1 → IsPartPrepared parts r x) js k y so_far (λ r x is other each low. each (omega (arith, other, low))) (λ low. here)

pub all_prepared : (parts : PartRecords) (k : ℕ) (js : List RegionJournal) → length js ≤ k → PreparedTo parts k js → ArePrepared parts js
all_prepared parts k js all so_far r x what is part = so_far r x is (let low = slice_get_within js r x is in omega (arith, low, all)) what part

-- afterwards
pub ready_same : (u v : View) (g : ℕ) (old new : List RegionJournal) → length new ≡ length old → AreReady u g old → AllTurned u v IsUnchanged Stays old new → AreReady v g new
ready_same u v g old new count ready turned = record {
  few = let few = ready.few in omega (arith, few, count);
  each = λ r y is.
      let x = same_place old new r y count is in
      let t = turned r x.0 y x.1 is in
      let of = (ready.each r x.0 x.1).of in
      record {
        ready = t.ready;
        of = record { region = t.same.region ∙ of.region; generation = t.same.generation ∙ of.generation; file = t.same.file ∙ of.file };
        goes_on = t.facts.goes_on;
      };
}

pub keeps_same : (u v : View) (hard waiting : ℕ → List JournalRecord) (old new : List RegionJournal) → length new ≡ length old → AllTurned u v IsUnchanged Stays old new → KeepsJournals u hard waiting old → KeepsJournals v hard waiting new
keeps_same u v hard waiting old new count turned keeps = record {
  has = λ r y is.
      let x = same_place old new r y count is in
      (turned r x.0 y x.1 is).state (record { hard = hard r; opening = []; closed = waiting r }) (record { hard = hard r; opening = []; closed = waiting r }) refl (keeps.has r x.0 x.1);
  none_waits = λ r y is isnt.
      let x = same_place old new r y count is in
      keeps.none_waits r x.0 x.1 (sym (turned r x.0 y x.1 is).facts.appended ∙ isnt);
}
