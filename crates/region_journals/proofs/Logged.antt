-- Records that are appended to one region's journal.
use Rattle.std.proofs.Common.{◌≡◌, ◌≢◌, ◌<◌, ◌+◌, ◌==◌, ℕ, zero, suc, Bool, true, false, List, [], ◌∷◌, ◌++◌, length, map, take, Some, set, get_or, refl, sym, ◌∙◌, ap, subst, arith, append-nil, append_assoc}
use Rattle.std.specs.Prelude.{slice_get, IsTrue, Result, OnOk, OnErr, if◌then◌else◌}
use Rattle.std.proofs.lemmas.Bool.Decides.{nat_tests}
use Rattle.std.specs.List.{AllByRecursion}
use Rattle.std.proofs.lemmas.List.{length-set, map_more}
use Rattle.std.proofs.lemmas.Option.{slice_get_within}
use Rattle.disk_defs.specs.Disk.{View, Image, IsLawful, AtEachMoment}
use Rattle.disk_defs.specs.Frames.{Only, OnlyIn, OnlyOn, OthersStay}
use Rattle.disk_defs.proofs.Frames.{others_same}
use Rattle.disk_defs.proofs.Moments.{weaker, only_then}
use Rattle.journal_defs.specs.Journal.{JournalRecord}
use Rattle.jnl_record.specs.declared.record.JnlRecord.{JnlRecord}
use Rattle.jnl_record.specs.Values.{record_value}
use Rattle.jnl_file.specs.Records.{Recorded, StandsRecords, appended}
use Rattle.jnl_file.specs.Journal as files
use Rattle.jnl_file.specs.declared.journal.Journal.{Journal}
use Rattle.jnl_file.proofs.Others as others
use Rattle.region_journals.specs.declared.journals.RegionJournal.{RegionJournal}
use Rattle.region_journals.specs.Fronts.{IsNewestFile, HasFirst}
use Rattle.region_journals.specs.Journals.{HasSyncs, IsOpen, AreReady, KeepsJournals}
use Rattle.region_journals.specs.Logging.{MayBeAppended, HasLogged, in_region}
use Rattle.region_journals.proofs.Turns.{moved}
use Rattle.region_journals.proofs.Moments as moments
use Rattle.region_journals.proofs.Rounds.{stands_in}
use Rattle.region_journals.proofs.Prepared.{syncs_kept}
use Rattle.region_journals.proofs.Entered.{entry_begins, none_first}

-- no record was appended
pub none_logged : (v : View) (x : RegionJournal) → files.IsReady v x.journal → (IsTrue x.appended → HasSyncs x.journal) → HasLogged v v [] x x
none_logged v x ready goes_on = record {
  ready = ready;
  same = record { region = refl; generation = refl; file = refl };
  goes_on = goes_on;
  none_before = λ isnt. isnt;
  none_more = λ isnt. refl;
  state = λ hard waiting has. subst (λ (l : List JournalRecord). files.HasRecords v x.journal (record { hard = hard; opening = []; closed = l })) (sym (append-nil waiting)) has;
}

-- one was prepared at most
pub prepared_only : {Y E : Type 0} (u v : View) (x : RegionJournal) (k : Journal) (result : Result Y E) → (IsTrue x.appended → HasSyncs x.journal) → files.IsReady v k → files.IsSameJournal x.journal k
    → OnOk result (k.gated.syncs_left ≡ x.journal.gated.syncs_left + 2) → OnErr result (files.SamePrepared x.journal k) → ((s : Recorded) → files.HasRecords u x.journal s → files.HasRecords v k s)
    → HasLogged u v [] x (record { journal = k; appended = x.appended })
prepared_only u v x k result goes_on ready same ok err state = record {
  ready = ready;
  same = same;
  goes_on = λ yes. syncs_kept result x.journal k ok err (goes_on yes);
  none_before = λ isnt. isnt;
  none_more = λ isnt. refl;
  state = λ hard waiting has. subst (λ (l : List JournalRecord). files.HasRecords v k (record { hard = hard; opening = []; closed = l })) (sym (append-nil waiting)) (state (record { hard = hard; opening = []; closed = waiting }) has);
}

-- one was prepared and appended
pub one_logged : (u m w : View) (x : RegionJournal) (k l : Journal) (what : JournalRecord) → files.IsReady w l → files.IsSameJournal x.journal k → files.IsSameJournal k l
    → k.gated.syncs_left ≡ x.journal.gated.syncs_left + 2 → l.gated.syncs_left ≡ k.gated.syncs_left → files.IsPrepared k what
    → ((s : Recorded) → files.HasRecords u x.journal s → files.HasRecords m k s)
    → ((r : JournalRecord) (s : Recorded) → files.IsPrepared k r → files.HasRecords m k s → files.HasRecords w l (appended s r))
    → HasLogged u w (what ∷ []) x (record { journal = l; appended = true })
one_logged u m w x k l what ready first second room left prepared before after = record {
  ready = ready;
  same = record { region = second.region ∙ first.region; generation = second.generation ∙ first.generation; file = second.file ∙ first.file };
  goes_on = λ yes. omega (arith, room, left);
  none_before = λ isnt. absurd (cc isnt);
  none_more = λ isnt. absurd (cc isnt);
  state = λ hard waiting has. let s : Recorded = record { hard = hard; opening = []; closed = waiting } in after what s prepared (before s has);
}

-- each of a list may be appended
pub may_at : (rs : List JnlRecord) (i : ℕ) (r : JnlRecord) → i < length rs → r ≡ get_or rs i r → AllByRecursion MayBeAppended rs → MayBeAppended r
may_at [] i r low is all = absurd (omega (arith, low))
may_at (q ∷ rs) zero r low is all = subst MayBeAppended (sym is) all.0
may_at (q ∷ rs) (suc i) r low is all = may_at rs i r (omega (arith, low)) is all.1

-- some, and then more of them
pub logged_then : (u v w : View) (rs qs : List JournalRecord) (x y z : RegionJournal) → HasLogged u v rs x y → HasLogged v w qs y z → HasLogged u w (rs ++ qs) x z
logged_then u v w rs qs x y z first second = record {
  ready = second.ready;
  same = record { region = second.same.region ∙ first.same.region; generation = second.same.generation ∙ first.same.generation; file = second.same.file ∙ first.same.file };
  goes_on = second.goes_on;
  none_before = λ isnt. first.none_before (second.none_before isnt);
  none_more = λ isnt. ap (λ (l : List JournalRecord). l ++ qs) (first.none_more (second.none_before isnt)) ∙ second.none_more isnt;
  state = λ hard waiting has. subst (λ (l : List JournalRecord). files.HasRecords w z.journal (record { hard = hard; opening = []; closed = l })) (append_assoc waiting rs qs) (second.state hard (waiting ++ rs) (first.state hard waiting has));
}

pub one_more : (u v w : View) (rs : List JnlRecord) (i : ℕ) (r : JnlRecord) (x y z : RegionJournal) → i < length rs → r ≡ get_or rs i r → HasLogged u v (map record_value (take i rs)) x y → HasLogged v w (record_value r ∷ []) y z
    → HasLogged u w (map record_value (take (i + 1) rs)) x z
one_more u v w rs i r x y z low is first second =
    subst (λ (l : List JournalRecord). HasLogged u w l x z) (sym (map_more record_value rs i r low ∙ ap (λ (q : JnlRecord). map record_value (take i rs) ++ record_value q ∷ []) (sym is)))
    (logged_then u v w (map record_value (take i rs)) (record_value r ∷ []) x y z first second)

pub none_other : (u v w : View) (rs : List JournalRecord) (x y z : RegionJournal) → HasLogged u v rs x y → HasLogged v w [] y z → HasLogged u w rs x z
none_other u v w rs x y z first second = subst (λ (l : List JournalRecord). HasLogged u w l x z) (append-nil rs) (logged_then u v w rs [] x y z first second)

-- on the way no image has any of those that wait
pub still_stands : (u m : View) (j : Journal) (hard waiting : List JournalRecord) → files.HasRecords u j (record { hard = hard; opening = []; closed = waiting }) → AtEachMoment u m (Image u)
    → AtEachMoment u m (OnlyOn u j.gated.file (StandsRecords hard []))
still_stands u m j hard waiting has run =
    weaker u m (Image u) (OnlyOn u j.gated.file (StandsRecords hard [])) (λ c now. record { here = stands_in u j (record { hard = hard; opening = []; closed = waiting }) has c now; others = (c, now, λ f out. refl) }) run

pub stands_then : (u v w : View) (file other : ℕ) (hard : List JournalRecord) → IsLawful v → other ≡ file → AtEachMoment u v (OnlyOn u file (StandsRecords hard [])) → AtEachMoment v w (OnlyOn v other (StandsRecords hard []))
    → AtEachMoment u w (OnlyOn u file (StandsRecords hard []))
stands_then u v w file other hard lawful same so_far call =
    only_then u v w (Only file) (Only file) (λ c. StandsRecords hard [] (c file)) (λ c. StandsRecords hard [] (c file)) lawful (λ f is. is) so_far
    (subst (λ (n : ℕ). AtEachMoment v w (OnlyOn v n (StandsRecords hard []))) same call) (λ d c was have kept here. here)

-- records in one region alone
pub here_all : (region : ℕ) (rs : List JournalRecord) → in_region region rs region ≡ rs
here_all region rs = ap (λ (b : Bool). if b then rs else []) alike
  where
    alike : (region == region) ≡ true
    alike = grind (arith, nat_tests)

pub elsewhere_none : (region r : ℕ) (rs : List JournalRecord) → r ≢ region → in_region region rs r ≡ []
elsewhere_none region r rs other = ap (λ (b : Bool). if b then rs else []) unlike
  where
    unlike : (r == region) ≡ false
    unlike = grind (arith, nat_tests, other)

module _ (u w : View) (g region : ℕ) (old : List RegionJournal) (x : RegionJournal) (ready : AreReady u g old) (at : slice_get old region ≡ Some x) where
  away : (r : ℕ) (q : RegionJournal) → slice_get old r ≡ Some q → r ≢ region → q.journal.gated.file ≢ x.journal.gated.file
  away r q is other e =
      let few = ready.few in
      let low = slice_get_within old r q is in
      let there = slice_get_within old region x at in
      let mine = (ready.each r q is).of.file in
      let here = (ready.each region x at).of.file in
      other (omega (arith, mine, here, e, low, there, few))

  pub ready_logged : (rs : List JournalRecord) (y : RegionJournal) → OthersStay (Only x.journal.gated.file) u w → HasLogged u w rs x y → AreReady w g (set old region y)
  ready_logged rs y stays logged =
      let few = ready.few in
      let of = (ready.each region x at).of in
      record {
        few = let size = length-set old region y in omega (arith, few, size);
        each = moved (λ r q. IsOpen u g HasSyncs r q) (λ r q. IsOpen w g HasSyncs r q) old region y ready.each
            (λ r q is other open_there. record { ready = others.ready_stays u w (Only x.journal.gated.file) q.journal stays (away r q is other) open_there.ready; of = open_there.of; goes_on = open_there.goes_on })
            (record {
              ready = logged.ready;
              of = record { region = logged.same.region ∙ of.region; generation = logged.same.generation ∙ of.generation; file = logged.same.file ∙ of.file };
              goes_on = logged.goes_on;
            });
      }

  pub keeps_logged : (rs : List JournalRecord) (y : RegionJournal) (hard waiting : ℕ → List JournalRecord) → OthersStay (Only x.journal.gated.file) u w → HasLogged u w rs x y → KeepsJournals u hard waiting old
      → KeepsJournals w hard (λ r. waiting r ++ in_region region rs r) (set old region y)
  keeps_logged rs y hard waiting stays logged keeps = record {
    has = moved (λ r q. files.HasRecords u q.journal (record { hard = hard r; opening = []; closed = waiting r })) (λ r q. files.HasRecords w q.journal (record { hard = hard r; opening = []; closed = waiting r ++ in_region region rs r })) old region y keeps.has
        (λ r q is other has. subst (λ (l : List JournalRecord). files.HasRecords w q.journal (record { hard = hard r; opening = []; closed = l })) (same_there r other)
        (others.records_stay u w (Only x.journal.gated.file) q.journal stays (away r q is other) (record { hard = hard r; opening = []; closed = waiting r }) has))
        (subst (λ (l : List JournalRecord). files.HasRecords w y.journal (record { hard = hard region; opening = []; closed = waiting region ++ l })) (sym (here_all region rs)) (logged.state (hard region) (waiting region) (keeps.has region x at)));
    none_waits = moved (λ r q. q.appended ≡ false → waiting r ≡ []) (λ r q. q.appended ≡ false → waiting r ++ in_region region rs r ≡ []) old region y keeps.none_waits
        (λ r q is other none isnt. sym (same_there r other) ∙ none isnt)
        (λ isnt. ap (λ (l : List JournalRecord). waiting region ++ l) (here_all region rs ∙ logged.none_more isnt) ∙ append-nil (waiting region) ∙ keeps.none_waits region x at (logged.none_before isnt));
  }
    where
      same_there : (r : ℕ) → r ≢ region → waiting r ≡ waiting r ++ in_region region rs r
      same_there r other = sym (ap (λ (l : List JournalRecord). waiting r ++ l) (elsewhere_none region r rs other) ∙ append-nil (waiting r))

  pub first_logged : (hard waiting : ℕ → List JournalRecord) → IsLawful u → KeepsJournals u hard waiting old → AtEachMoment u w (OnlyOn u x.journal.gated.file (StandsRecords (hard region) []))
      → AtEachMoment u w (OnlyIn u (IsNewestFile g (length old)) (HasFirst g (length old) hard waiting (λ r. 0)))
  first_logged hard waiting lawful keeps call =
      none_first u w g (length old) hard waiting
      (moments.moments_on u u w g (length old) region x.journal.gated.file ready.few (slice_get_within old region x at) (ready.each region x at).of.file (λ r. StandsRecords (hard r) []) lawful (entry_begins u g old hard waiting ready keeps) call)

  pub frame_logged : OthersStay (Only x.journal.gated.file) u w → OthersStay (IsNewestFile g (length old)) u w
  frame_logged stays = moments.frame_on u u w g (length old) region x.journal.gated.file ready.few (slice_get_within old region x at) (ready.each region x at).of.file (others_same (IsNewestFile g (length old)) u) stays
