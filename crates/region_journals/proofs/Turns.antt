-- Calls that go over the regions: the journals are a list that changes at one place after another.
use Rattle.std.proofs.Common.{◌≡◌, ◌≢◌, ◌≤◌, ◌<◌, ◌+◌, ℕ, zero, suc, List, [], ◌∷◌, length, Some, inl, inr, refl, sym, ◌∙◌, ap, subst, arith, set, get_or-set_same, get_or-set_other}
use Rattle.std.specs.Prelude.{slice_get, IsTrue}
use Rattle.std.proofs.lemmas.Bool.{cases_eq, cases_lt}
use Rattle.std.proofs.lemmas.Option.{slice_get_within, slice_get-get_or, get_or_from_slice_get}
use Rattle.std.proofs.lemmas.List.{length-set}
use Rattle.global_defs.specs.declared.limits.TheConstants.{MOST_REGIONS}
use Rattle.disk_defs.specs.Disk.{View}
use Rattle.disk_defs.specs.Frames.{Only, OthersStay}
use Rattle.journal_defs.specs.Numbers.{journal_file}
use Rattle.jnl_file.specs.declared.journal.Journal.{Journal}
use Rattle.jnl_file.specs.Records.{Recorded}
use Rattle.jnl_file.specs.Journal as journals
use Rattle.jnl_file.proofs.Others as others
use Rattle.region_journals.specs.declared.journals.RegionJournal.{RegionJournal}
use Rattle.region_journals.specs.Journals.{IsOpen, AreOpen}
use Rattle.region_journals.specs.Turns.{Turned, AllTurned}

-- a list changed at one place
at_place : {X : Type 0} (xs : List X) (k : ℕ) (y x : X) → slice_get (set xs k y) k ≡ Some x → x ≡ y
at_place xs k y x is =
    let there = slice_get_within (set xs k y) k x is in
    let size = length-set xs k y in
    sym (get_or_from_slice_get (set xs k y) k x y is) ∙ get_or-set_same xs k y y (omega (arith, there, size))

elsewhere : {X : Type 0} (xs : List X) (k r : ℕ) (y x : X) → r ≢ k → slice_get (set xs k y) r ≡ Some x → slice_get xs r ≡ Some x
elsewhere xs k r y x other is =
    let there = slice_get_within (set xs k y) r x is in
    let size = length-set xs k y in
    slice_get-get_or xs r x (omega (arith, there, size)) ∙ ap Some (sym (get_or-set_other xs k r y x other) ∙ get_or_from_slice_get (set xs k y) r x x is)

pub moved : {X : Type 0} (P Q : ℕ → X → Type 0) (xs : List X) (k : ℕ) (y : X) → ((r : ℕ) (x : X) → slice_get xs r ≡ Some x → P r x) → ((r : ℕ) (x : X) → slice_get xs r ≡ Some x → r ≢ k → P r x → Q r x) → Q k y
    → (r : ℕ) (x : X) → slice_get (set xs k y) r ≡ Some x → Q r x
moved P Q xs k y each others here r x is = elim (cases_eq r k) [
  | inl e ↦ subst (λ (n : ℕ). Q n x) (sym e) (subst (Q k) (sym (at_place xs k y x (subst (λ (n : ℕ). slice_get (set xs k y) n ≡ Some x) e is))) here)
  | inr other ↦ let was = elsewhere xs k r y x other is in others r x was other (each r x was)
]

pub found : {X : Type 0} (xs : List X) (r : ℕ) → r < length xs → (x : X) × (slice_get xs r ≡ Some x)
found [] r there = absurd (omega (arith, there))
found (x ∷ xs) zero there = (x, refl)
found (x ∷ xs) (suc r) there = found xs r (omega (arith, there))

-- each element of a list has one at the same place of a list that is as long
pub same_place : {X Y : Type 0} (xs : List X) (ys : List Y) (r : ℕ) (y : Y) → length ys ≡ length xs → slice_get ys r ≡ Some y → (x : X) × (slice_get xs r ≡ Some x)
same_place xs ys r y same is = let there = slice_get_within ys r y is in found xs r (omega (arith, there, same))

-- A call hasn't been at a journal yet.
pub record Left (u v : View) (x y : RegionJournal) : Type 0 where
  pub same : y ≡ x
  pub ready : journals.IsReady u x.journal → journals.IsReady v y.journal
  pub state : (s : Recorded) → journals.HasRecords u x.journal s → journals.HasRecords v y.journal s

-- A call has been at the first k regions' journals, and not at the others yet.
pub record IsAt (u v : View) (F : ℕ → RegionJournal → RegionJournal → Type 0) (S : ℕ → RegionJournal → Recorded → Recorded → Type 0) (k : ℕ) (old : List RegionJournal) (r : ℕ) (y : RegionJournal) : Type 0 where
  pub done : (x : RegionJournal) → slice_get old r ≡ Some x → r < k → Turned u v F S r x y
  pub left : (x : RegionJournal) → slice_get old r ≡ Some x → k ≤ r → Left u v x y

pub record HasCome (u v : View) (F : ℕ → RegionJournal → RegionJournal → Type 0) (S : ℕ → RegionJournal → Recorded → Recorded → Type 0) (k : ℕ) (old new : List RegionJournal) : Type 0 where
  pub count : length new ≡ length old
  pub each : (r : ℕ) (y : RegionJournal) → slice_get new r ≡ Some y → IsAt u v F S k old r y

one_at : {X : Type 0} (xs : List X) (r : ℕ) (x y : X) → slice_get xs r ≡ Some x → slice_get xs r ≡ Some y → y ≡ x
one_at xs r x y is also = cc

module _ (F : ℕ → RegionJournal → RegionJournal → Type 0) (S : ℕ → RegionJournal → Recorded → Recorded → Type 0) where
  pub begins : (u : View) (old : List RegionJournal) → HasCome u u F S 0 old old
  begins u old = record {
    count = refl;
    each = λ r y is. record {
      done = λ x was low. absurd (omega (arith, low));
      left = λ x was low. let same = one_at old r x y was is in record { same = same; ready = λ ready. subst (λ (q : RegionJournal). journals.IsReady u q.journal) (sym same) ready; state = λ s has. subst (λ (q : RegionJournal). journals.HasRecords u q.journal s) (sym same) has };
    };
  }

  pub ends : (u v : View) (k : ℕ) (old new : List RegionJournal) → k ≡ length old → HasCome u v F S k old new → AllTurned u v F S old new
  ends u v k old new all come r x y was is = (come.each r y is).done x was (let there = slice_get_within old r x was in omega (arith, there, all))

  -- the file of each journal, on the way
  module _ (u v : View) (g : ℕ) (P : Journal → Type 0) (k : ℕ) (old new : List RegionJournal) (opened : AreOpen u g P old) (come : HasCome u v F S k old new) where
    pub file_at : (r : ℕ) (y : RegionJournal) → slice_get new r ≡ Some y → y.journal.gated.file ≡ journal_file g r
    file_at r y is =
        let was = same_place old new r y come.count is in
        let is_at = come.each r y is in
        let file : was.0.journal.gated.file ≡ journal_file g r = (opened.each r was.0 was.1).of.file in
        elim (cases_lt r k) [
          | inl low ↦ (is_at.done was.0 was.1 low).same.file ∙ file
          | inr high ↦ ap (λ (q : RegionJournal). q.journal.gated.file) (is_at.left was.0 was.1 high).same ∙ file
        ]

    -- the journal that is next
    pub next_open : (y : RegionJournal) → slice_get new k ≡ Some y → IsOpen v g P k y
    next_open y is =
        let was = same_place old new k y come.count is in
        let left = (come.each k y is).left was.0 was.1 (omega arith) in
        let open_here = opened.each k was.0 was.1 in
        record {
          ready = left.ready open_here.ready;
          of = subst (λ (q : RegionJournal). journals.IsJournalOf q.journal k g) (sym left.same) open_here.of;
          goes_on = subst (λ (q : RegionJournal). IsTrue q.appended → P q.journal) (sym left.same) open_here.goes_on;
        }

    pub next_has : (y : RegionJournal) (s : Recorded) → slice_get new k ≡ Some y → ((x : RegionJournal) → slice_get old k ≡ Some x → journals.HasRecords u x.journal s) → journals.HasRecords v y.journal s
    next_has y s is has =
        let was = same_place old new k y come.count is in
        ((come.each k y is).left was.0 was.1 (omega arith)).state s (has was.0 was.1)

    turned_on : (w : View) (x y z : RegionJournal) → Left u v x y → Turned v w F S k y z → Turned u w F S k x z
    turned_on w x y z left turned = record {
      ready = turned.ready;
      same = subst (λ (q : RegionJournal). journals.IsSameJournal q.journal z.journal) left.same turned.same;
      facts = subst (λ (q : RegionJournal). F k q z) left.same turned.facts;
      state = λ s t goes has. turned.state s t (subst (λ (q : RegionJournal). S k q s t) (sym left.same) goes) (left.state s has);
    }

    still : (w : View) (file r : ℕ) (y : RegionJournal) → OthersStay (Only file) v w → file ≡ journal_file g k → r ≢ k → r < MOST_REGIONS → k < MOST_REGIONS → slice_get new r ≡ Some y → IsAt u v F S k old r y → IsAt u w F S (k + 1) old r y
    still w file r y stays here other low low_k is is_at =
        let away : y.journal.gated.file ≢ file = λ e. other (let mine = file_at r y is in omega (arith, mine, here, e, low, low_k)) in
        record {
          done = λ x was before.
              let t = is_at.done x was (omega (arith, before, other)) in
              record {
                ready = others.ready_stays v w (Only file) y.journal stays away t.ready;
                same = t.same;
                facts = t.facts;
                state = λ s q goes has. others.records_stay v w (Only file) y.journal stays away q (t.state s q goes has);
              };
          left = λ x was past.
              let l = is_at.left x was (omega (arith, past)) in
              record {
                same = l.same;
                ready = λ ready. others.ready_stays v w (Only file) y.journal stays away (l.ready ready);
                state = λ s has. others.records_stay v w (Only file) y.journal stays away s (l.state s has);
              };
        }

    pub goes_on : (w : View) (y z : RegionJournal) → slice_get new k ≡ Some y → OthersStay (Only y.journal.gated.file) v w → Turned v w F S k y z → HasCome u w F S (k + 1) old (set new k z)
    goes_on w y z is stays turned =
        let few = opened.few in
        let there = slice_get_within new k y is in
        let count = come.count in
        record {
          count = length-set new k z ∙ count;
          each = moved (λ r q. IsAt u v F S k old r q) (λ r q. IsAt u w F S (k + 1) old r q) new k z come.each
              (λ r q at other is_at. still w y.journal.gated.file r q stays (file_at k y is) other (let low = slice_get_within new r q at in omega (arith, low, count, few)) (omega (arith, there, count, few)) at is_at)
              (record {
                done = λ x was before. turned_on w x y z ((come.each k y is).left x was (omega arith)) turned;
                left = λ x was past. absurd (omega (arith, past));
              });
        }
