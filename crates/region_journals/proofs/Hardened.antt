-- The rounds of a hardening, one after another.
use Rattle.std.proofs.Common.{◌≡◌, ◌<◌, ◌+◌, ℕ, false, List, [], ◌++◌, length, take, drop, Some, inl, inr, refl, sym, ◌∙◌, ap, subst, arith, append-nil, take_all}
use Rattle.std.specs.Prelude.{slice_get, IsTrue, Result, Ok, Err, OnOk}
use Rattle.std.proofs.lemmas.Bool.{cases_lt}
use Rattle.std.proofs.lemmas.List.{drop_all}
use Rattle.disk_defs.specs.Disk.{Files, View, IsLawful, AtEachMoment}
use Rattle.disk_defs.specs.Frames.{OnlyIn, OthersStay}
use Rattle.disk_defs.proofs.Frames.{others_then}
use Rattle.disk_defs.proofs.Moments.{only_then, only_weaker}
use Rattle.journal_defs.specs.Numbers.{journal_file}
use Rattle.journal_defs.specs.Journal.{JournalRecord, IsJournalBody}
use Rattle.journal_defs.specs.Stands.{Holds}
use Rattle.jnl_file.specs.Records.{Recorded, StandsRecords}
use Rattle.jnl_file.specs.Journal as files
use Rattle.region_journals.specs.declared.journals.RegionJournal.{RegionJournal}
use Rattle.region_journals.specs.declared.hardening.Round.{Round}
use Rattle.region_journals.specs.declared.hardening.Round.TheVariants.{SyncBodies, OpenGates, SyncGates}
use Rattle.region_journals.specs.Fronts.{IsNewestFile, HasFirst}
use Rattle.region_journals.specs.Journals.{AreOpen, AreReady, KeepsJournals, IsHardened}
use Rattle.region_journals.specs.Turns.{Turned, AllTurned}
use Rattle.region_journals.specs.Rounds.{Before, After, HasDone, Becomes, before}
use Rattle.region_journals.proofs.Turns.{same_place}
use Rattle.region_journals.proofs.Moments.{Have}

-- how many of the records that wait each file has
pub kept_of : (g n : ℕ) (hard waiting : ℕ → List JournalRecord) (c : Files) → Have g n (λ r. StandsRecords (hard r) (waiting r)) c → (kept : ℕ → ℕ) × HasFirst g n hard waiting kept c
kept_of g n hard waiting c have = (λ r. (pick r).0, record { each = λ r there. (pick r).1 there })
  where
    pick : (r : ℕ) → (k : ℕ) × (r < n → Holds IsJournalBody (c (journal_file g r)) (hard r ++ take k (waiting r)))
    pick r = elim (cases_lt r n) [
      | inl there ↦ let stands = have r there in (stands.0, λ _. stands.2)
      | inr past ↦ (0, λ there. absurd (omega (arith, past, there)))
    ]

pub first_few : (v w : View) (g n : ℕ) (hard waiting : ℕ → List JournalRecord) → AtEachMoment v w (OnlyIn v (IsNewestFile g n) (Have g n (λ r. StandsRecords (hard r) (waiting r))))
    → AtEachMoment v w (OnlyIn v (IsNewestFile g n) (λ c. (kept : ℕ → ℕ) × HasFirst g n hard waiting kept c))
first_few v w g n hard waiting run =
    only_weaker v w (IsNewestFile g n) (Have g n (λ r. StandsRecords (hard r) (waiting r))) (λ c. (kept : ℕ → ℕ) × HasFirst g n hard waiting kept c) (λ c have. kept_of g n hard waiting c have) run

-- each round leaves the journals open for the next one
pub open_after : (u v : View) (round : Round) (g : ℕ) (old new : List RegionJournal) → length new ≡ length old → AreOpen u g (Before round) old → AllTurned u v (HasDone round) (Becomes round) old new → AreOpen v g (After round) new
open_after u v round g old new count ready turned = record {
  few = let few = ready.few in omega (arith, few, count);
  each = λ r y is.
      let x = same_place old new r y count is in
      let t = turned r x.0 y x.1 is in
      let of = (ready.each r x.0 x.1).of in
      record {
        ready = t.ready;
        of = record { region = t.same.region ∙ of.region; generation = t.same.generation ∙ of.generation; file = t.same.file ∙ of.file };
        goes_on = t.facts.goes_on;
      };
}

pub ready_after : (v : View) (g : ℕ) (js : List RegionJournal) → AreOpen v g (After SyncGates) js → AreReady v g js
ready_after v g js ready = record { few = ready.few; each = λ r x is. let o = ready.each r x is in record { ready = o.ready; of = o.of; goes_on = λ yes. absurd (o.goes_on yes) } }

-- what each round makes of the records
abbrev pub done : Round → List JournalRecord → List JournalRecord → Recorded
done SyncBodies hard waiting = record { hard = hard; opening = []; closed = waiting }
done OpenGates hard waiting = record { hard = hard; opening = waiting; closed = [] }
done SyncGates hard waiting = record { hard = hard ++ waiting; opening = []; closed = [] }

pub done_by : (u v : View) (round : Round) (r : ℕ) (x y : RegionJournal) (hard waiting : List JournalRecord) → Turned u v (HasDone round) (Becomes round) r x y → (x.appended ≡ false → waiting ≡ [])
    → files.HasRecords u x.journal (before round hard waiting) → files.HasRecords v y.journal (done round hard waiting)
done_by u v SyncBodies r x y hard waiting t none has =
    t.state (before SyncBodies hard waiting) (done SyncBodies hard waiting) (record { no_opening = λ _. refl; no_closed = none; is = λ i. record { hard = (sym (append-nil hard)) i; opening = []; closed = waiting } }) has
done_by u v OpenGates r x y hard waiting t none has = t.state (before OpenGates hard waiting) (done OpenGates hard waiting) (record { no_opening = λ _. refl; no_closed = none; is = refl }) has
done_by u v SyncGates r x y hard waiting t none has = t.state (before SyncGates hard waiting) (done SyncGates hard waiting) (record { no_opening = none; no_closed = λ _. refl; is = refl }) has

-- The records before a round, in each region, and none that wait where nothing was appended.
pub record HaveBefore (v : View) (round : Round) (hard waiting : ℕ → List JournalRecord) (js : List RegionJournal) : Type 0 where
  pub has : (r : ℕ) (x : RegionJournal) → slice_get js r ≡ Some x → files.HasRecords v x.journal (before round (hard r) (waiting r))
  pub none_waits : (r : ℕ) (x : RegionJournal) → slice_get js r ≡ Some x → x.appended ≡ false → waiting r ≡ []

pub before_bodies : (v : View) (hard waiting : ℕ → List JournalRecord) (js : List RegionJournal) → KeepsJournals v hard waiting js → HaveBefore v SyncBodies hard waiting js
before_bodies v hard waiting js keeps = record { has = keeps.has; none_waits = keeps.none_waits }

pub before_gates : (u v : View) (hard waiting : ℕ → List JournalRecord) (old new : List RegionJournal) → length new ≡ length old → AllTurned u v (HasDone SyncBodies) (Becomes SyncBodies) old new → HaveBefore u SyncBodies hard waiting old
    → HaveBefore v OpenGates hard waiting new
before_gates u v hard waiting old new count turned have = record {
  has = λ r y is. let x = same_place old new r y count is in done_by u v SyncBodies r x.0 y (hard r) (waiting r) (turned r x.0 y x.1 is) (have.none_waits r x.0 x.1) (have.has r x.0 x.1);
  none_waits = λ r y is none. let x = same_place old new r y count is in have.none_waits r x.0 x.1 (sym (turned r x.0 y x.1 is).facts.appended ∙ none);
}

pub before_last : (u v : View) (hard waiting : ℕ → List JournalRecord) (old new : List RegionJournal) → length new ≡ length old → AllTurned u v (HasDone OpenGates) (Becomes OpenGates) old new → HaveBefore u OpenGates hard waiting old
    → HaveBefore v SyncGates hard waiting new
before_last u v hard waiting old new count turned have = record {
  has = λ r y is. let x = same_place old new r y count is in done_by u v OpenGates r x.0 y (hard r) (waiting r) (turned r x.0 y x.1 is) (have.none_waits r x.0 x.1) (have.has r x.0 x.1);
  none_waits = λ r y is none. let x = same_place old new r y count is in have.none_waits r x.0 x.1 (sym (turned r x.0 y x.1 is).facts.appended ∙ none);
}

pub keeps_after : (u v : View) (hard waiting : ℕ → List JournalRecord) (old new : List RegionJournal) → length new ≡ length old → AllTurned u v (HasDone SyncGates) (Becomes SyncGates) old new → HaveBefore u SyncGates hard waiting old
    → KeepsJournals v (λ r. hard r ++ waiting r) (λ r. []) new
keeps_after u v hard waiting old new count turned have = record {
  has = λ r y is. let x = same_place old new r y count is in done_by u v SyncGates r x.0 y (hard r) (waiting r) (turned r x.0 y x.1 is) (have.none_waits r x.0 x.1) (have.has r x.0 x.1);
  none_waits = λ r y is none. refl;
}

-- a round more
pub moments_then : (u v w : View) (g n m : ℕ) (N : ℕ → List ℕ → Type 0) → IsLawful v → m ≡ n → AtEachMoment u v (OnlyIn u (IsNewestFile g n) (Have g n N)) → AtEachMoment v w (OnlyIn v (IsNewestFile g m) (Have g m N))
    → AtEachMoment u w (OnlyIn u (IsNewestFile g n) (Have g n N))
moments_then u v w g n m N lawful count so_far next =
    only_then u v w (IsNewestFile g n) (IsNewestFile g n) (Have g n N) (Have g n N) lawful (λ f is. is) so_far (subst (λ (k : ℕ). AtEachMoment v w (OnlyIn v (IsNewestFile g k) (Have g k N))) count next) (λ d c was p same q. q)

pub frame_then : (u v w : View) (g n m : ℕ) → m ≡ n → OthersStay (IsNewestFile g n) u v → OthersStay (IsNewestFile g m) v w → OthersStay (IsNewestFile g n) u w
frame_then u v w g n m count so_far next = others_then (IsNewestFile g n) u v w so_far (subst (λ (k : ℕ). OthersStay (IsNewestFile g k) v w) count next)

-- what all of them have done
pub hardened_by : (u v w z : View) (r : ℕ) (a b c d : RegionJournal) → Turned u v (HasDone SyncBodies) (Becomes SyncBodies) r a b → Turned v w (HasDone OpenGates) (Becomes OpenGates) r b c → Turned w z (HasDone SyncGates) (Becomes SyncGates) r c d
    → IsHardened a d
hardened_by u v w z r a b c d one two three = record {
  none_appended = three.facts.appended;
  two_syncs = λ yes.
      let yes_b : IsTrue b.appended = subst IsTrue (sym one.facts.appended) yes in
      let yes_c : IsTrue c.appended = subst IsTrue (sym two.facts.appended) yes_b in
      let first : b.journal.gated.syncs_left + 1 ≡ a.journal.gated.syncs_left = one.facts.syncs yes in
      let second : c.journal.gated.syncs_left + 0 ≡ b.journal.gated.syncs_left = two.facts.syncs yes_b in
      let third : d.journal.gated.syncs_left + 1 ≡ c.journal.gated.syncs_left = three.facts.syncs yes_c in
      omega (arith, first, second, third);
  left_alone = λ none.
      let none_b : b.appended ≡ false = one.facts.appended ∙ none in
      let none_c : c.appended ≡ false = two.facts.appended ∙ none_b in
      three.facts.left_alone none_c ∙ two.facts.left_alone none_b ∙ one.facts.left_alone none;
}

-- What a round has done in all regions.
pub record WentRound (u v : View) (round : Round) (old new : List RegionJournal) : Type 0 where
  pub count : length new ≡ length old
  pub moments : (g : ℕ) (hard waiting : ℕ → List JournalRecord) → AreOpen u g (Before round) old → ((r : ℕ) (x : RegionJournal) → slice_get old r ≡ Some x → files.HasRecords u x.journal (before round (hard r) (waiting r)))
      → AtEachMoment u v (OnlyIn u (IsNewestFile g (length old)) (Have g (length old) (λ r. StandsRecords (hard r) (waiting r))))
  pub frame : (g : ℕ) → AreOpen u g (Before round) old → OthersStay (IsNewestFile g (length old)) u v

-- the first round
module _ (u v : View) (one two : List RegionJournal) (a : WentRound u v SyncBodies one two) where
  pub moments_one : (g : ℕ) (hard waiting : ℕ → List JournalRecord) → AreReady u g one → KeepsJournals u hard waiting one → AtEachMoment u v (OnlyIn u (IsNewestFile g (length one)) (Have g (length one) (λ r. StandsRecords (hard r) (waiting r))))
  moments_one g hard waiting ready keeps = a.moments g hard waiting ready keeps.has

  -- and the second
  module _ (w : View) (three : List RegionJournal) (a_turned : AllTurned u v (HasDone SyncBodies) (Becomes SyncBodies) one two) (b : WentRound v w OpenGates two three) where
    pub open_two : (g : ℕ) → AreReady u g one → AreOpen v g (Before OpenGates) two
    open_two g ready = open_after u v SyncBodies g one two a.count ready a_turned

    pub have_two : (hard waiting : ℕ → List JournalRecord) → KeepsJournals u hard waiting one → HaveBefore v OpenGates hard waiting two
    have_two hard waiting keeps = before_gates u v hard waiting one two a.count a_turned (before_bodies u hard waiting one keeps)

    pub moments_two : IsLawful v → (g : ℕ) (hard waiting : ℕ → List JournalRecord) → AreReady u g one → KeepsJournals u hard waiting one → AtEachMoment u w (OnlyIn u (IsNewestFile g (length one)) (Have g (length one) (λ r. StandsRecords (hard r) (waiting r))))
    moments_two lawful g hard waiting ready keeps =
        moments_then u v w g (length one) (length two) (λ r. StandsRecords (hard r) (waiting r)) lawful a.count (moments_one g hard waiting ready keeps) (b.moments g hard waiting (open_two g ready) (have_two hard waiting keeps).has)

    pub frame_two : (g : ℕ) → AreReady u g one → OthersStay (IsNewestFile g (length one)) u w
    frame_two g ready = frame_then u v w g (length one) (length two) a.count (a.frame g ready) (b.frame g (open_two g ready))

    -- and the last
    module _ (z : View) (four : List RegionJournal) (b_turned : AllTurned v w (HasDone OpenGates) (Becomes OpenGates) two three) (c : WentRound w z SyncGates three four) where
      pub open_three : (g : ℕ) → AreReady u g one → AreOpen w g (Before SyncGates) three
      open_three g ready = open_after v w OpenGates g two three b.count (open_two g ready) b_turned

      pub have_three : (hard waiting : ℕ → List JournalRecord) → KeepsJournals u hard waiting one → HaveBefore w SyncGates hard waiting three
      have_three hard waiting keeps = before_last v w hard waiting two three b.count b_turned (have_two hard waiting keeps)

      pub moments_three : IsLawful v → IsLawful w → (g : ℕ) (hard waiting : ℕ → List JournalRecord) → AreReady u g one → KeepsJournals u hard waiting one → AtEachMoment u z (OnlyIn u (IsNewestFile g (length one)) (Have g (length one) (λ r. StandsRecords (hard r) (waiting r))))
      moments_three lawful lawful_w g hard waiting ready keeps =
          moments_then u w z g (length one) (length three) (λ r. StandsRecords (hard r) (waiting r)) lawful_w (b.count ∙ a.count) (moments_two lawful g hard waiting ready keeps) (c.moments g hard waiting (open_three g ready) (have_three hard waiting keeps).has)

      pub frame_three : (g : ℕ) → AreReady u g one → OthersStay (IsNewestFile g (length one)) u z
      frame_three g ready = frame_then u w z g (length one) (length three) (b.count ∙ a.count) (frame_two g ready) (c.frame g (open_three g ready))

      pub ready_four : AllTurned w z (HasDone SyncGates) (Becomes SyncGates) three four → (g : ℕ) → AreReady u g one → AreReady z g four
      ready_four turned g ready = ready_after z g four (open_after w z SyncGates g three four c.count (open_three g ready) turned)

      pub keeps_four : AllTurned w z (HasDone SyncGates) (Becomes SyncGates) three four → (hard waiting : ℕ → List JournalRecord) → KeepsJournals u hard waiting one → KeepsJournals z (λ r. hard r ++ waiting r) (λ r. []) four
      keeps_four turned hard waiting keeps = keeps_after w z hard waiting three four c.count turned (have_three hard waiting keeps)

      pub each_four : AllTurned w z (HasDone SyncGates) (Becomes SyncGates) three four → (r : ℕ) (x y : RegionJournal) → slice_get one r ≡ Some x → slice_get four r ≡ Some y → IsHardened x y
      each_four turned r x y was is =
          let third = same_place three four r y c.count is in
          let second = same_place two three r third.0 b.count third.1 in
          hardened_by u v w z r x second.0 third.0 y (a_turned r x second.0 was second.1) (b_turned r second.0 third.0 second.1 third.1) (turned r third.0 y third.1 is)

-- a slice of all of a list, written back
pub back : (items new : List RegionJournal) (len : ℕ) → len ≡ length items → length new ≡ length items → take len (new ++ drop (length new) items) ≡ new
back items new len all count =
    ap (λ (l : List RegionJournal). take len (new ++ l)) (drop_all (length new) items (omega (arith, count))) ∙ ap (take len) (append-nil new) ∙ take_all len new (omega (arith, all, count))

pub ok_gives : {T E : Type 0} (result : Result T E) (P Q : Type 0) → (P → Q) → OnOk result P → OnOk result Q
ok_gives (Ok x) P Q gives p = gives p
ok_gives (Err e) P Q gives p = tt
