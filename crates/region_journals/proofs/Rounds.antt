-- The rounds of a hardening.
use Rattle.std.proofs.Common.{◌≡◌, ◌≤◌, ◌<◌, ◌+◌, ℕ, Bool, false, List, [], ◌++◌, length, Some, None, Option, IsSomeAnd, refl, sym, ◌∙◌, ap, subst, arith, append-nil}
use Rattle.std.specs.Prelude.{slice_get, IsTrue, Result, Ok, Err, OnOk}
use Rattle.disk_defs.specs.Disk.{Files, View, Image, IsLawful, AtEachMoment}
use Rattle.disk_defs.specs.Frames.{Only, OnlyIn, OnlyOn, OthersStay}
use Rattle.disk_defs.proofs.Moments.{only_weaker, only_started}
use Rattle.journal_defs.specs.Journal.{JournalRecord}
use Rattle.jnl_file.specs.Records.{Recorded, StandsRecords, synced, opened}
use Rattle.jnl_file.specs.Journal as files
use Rattle.jnl_file.specs.declared.journal.Journal.{Journal}
use Rattle.jnl_file.proofs.Steps.{records_more}
use Rattle.region_journals.specs.declared.journals.RegionJournal.{RegionJournal}
use Rattle.region_journals.specs.declared.hardening.Round.{Round}
use Rattle.region_journals.specs.declared.hardening.Round.TheVariants.{SyncBodies, OpenGates, SyncGates}
use Rattle.region_journals.specs.Fronts.{IsNewestFile}
use Rattle.region_journals.specs.Journals.{HasSyncs, AreOpen}
use Rattle.region_journals.specs.Turns.{Turned}
use Rattle.region_journals.specs.Rounds.{Before, After, HasDone, Becomes, before, after, still_appended, syncs_in}
use Rattle.region_journals.proofs.Turns as turns
use Rattle.region_journals.proofs.Turns.{HasCome}
use Rattle.region_journals.proofs.Moments as moments
use Rattle.region_journals.proofs.Moments.{Have}

-- while no gate is opened, the file has none of the records that wait
pub none_yet : (v w : View) (file : ℕ) (hard waiting : List JournalRecord) → AtEachMoment v w (OnlyOn v file (StandsRecords hard [])) → AtEachMoment v w (OnlyOn v file (StandsRecords hard waiting))
none_yet v w file hard waiting run = only_weaker v w (Only file) (λ c. StandsRecords hard [] (c file)) (λ c. StandsRecords hard waiting (c file)) (λ c stands. records_more hard [] waiting (c file) stands) run

pub stands_in : (v : View) (j : Journal) (s : Recorded) → files.HasRecords v j s → (c : Files) → Image v c → StandsRecords s.hard s.opening (c j.gated.file)
stands_in v j s has c now = among v.content has
  where
    among : (o : Option Files) → IsSomeAnd o (files.HoldsRecords v j s) → StandsRecords s.hard s.opening (c j.gated.file)
    among None h = absurd h
    among (Some a) h = h.stands c now

pub stands_before : (v : View) (round : Round) (j : Journal) (hard waiting : List JournalRecord) → files.HasRecords v j (before round hard waiting) → (c : Files) → Image v c → StandsRecords hard waiting (c j.gated.file)
stands_before v SyncBodies j hard waiting has c now = records_more hard [] waiting (c j.gated.file) (stands_in v j (before SyncBodies hard waiting) has c now)
stands_before v OpenGates j hard waiting has c now = records_more hard [] waiting (c j.gated.file) (stands_in v j (before OpenGates hard waiting) has c now)
stands_before v SyncGates j hard waiting has c now = stands_in v j (before SyncGates hard waiting) has c now

-- where nothing was appended, a round does nothing
nothing : (round : Round) (s : Recorded) → s.opening ≡ [] → s.closed ≡ [] → after round s ≡ s
nothing SyncBodies s o c = λ i. record { hard = (ap (λ (l : List JournalRecord). s.hard ++ l) o ∙ append-nil s.hard) i; opening = (sym o) i; closed = s.closed }
nothing OpenGates s o c = λ i. record { hard = s.hard; opening = (ap (λ (l : List JournalRecord). s.opening ++ l) c ∙ append-nil s.opening) i; closed = (sym c) i }
nothing SyncGates s o c = λ i. record { hard = (ap (λ (l : List JournalRecord). s.hard ++ l) o ∙ append-nil s.hard) i; opening = (sym o) i; closed = s.closed }

flag_same : (round : Round) (b : Bool) → b ≡ false → b ≡ still_appended round b
flag_same SyncBodies b is = refl
flag_same OpenGates b is = refl
flag_same SyncGates b is = is

not_appended : (b : Bool) → b ≡ false → IsTrue b → ⊥
not_appended b isnt is = cc (isnt, is)

pub left_alone : (v : View) (round : Round) (x : RegionJournal) → x.appended ≡ false → files.IsReady v x.journal → (r : ℕ) → Turned v v (HasDone round) (Becomes round) r x x
left_alone v round x none ready r = record {
  ready = ready;
  same = record { region = refl; generation = refl; file = refl };
  facts = record {
    appended = flag_same round x.appended none;
    goes_on = λ yes. absurd (not_appended x.appended none yes);
    syncs = λ yes. absurd (not_appended x.appended none yes);
    left_alone = λ none_here. refl;
  };
  state = λ s t becomes has. subst (λ (q : Recorded). files.HasRecords v x.journal q) (sym (becomes.is ∙ nothing round s (becomes.no_opening none) (becomes.no_closed none))) has;
}

-- What a call did to the journal of a region to which something was appended.
pub record HasWorked (v w : View) (round : Round) (x y : RegionJournal) : Type 0 where
  pub appended : IsTrue x.appended
  pub flag : y.appended ≡ still_appended round x.appended
  pub ready : files.IsReady w y.journal
  pub same : files.IsSameJournal x.journal y.journal
  pub syncs : y.journal.gated.syncs_left + syncs_in round ≡ x.journal.gated.syncs_left
  pub goes_on : IsTrue y.appended → After round y.journal
  pub state : (s : Recorded) → files.HasRecords v x.journal s → files.HasRecords w y.journal (after round s)

pub worked : (v w : View) (round : Round) (x y : RegionJournal) → HasWorked v w round x y → (r : ℕ) → Turned v w (HasDone round) (Becomes round) r x y
worked v w round x y h r = record {
  ready = h.ready;
  same = h.same;
  facts = record {
    appended = h.flag;
    goes_on = h.goes_on;
    syncs = λ yes. h.syncs;
    left_alone = λ none_here. absurd (not_appended x.appended none_here h.appended);
  };
  state = λ s t becomes has. subst (λ (q : Recorded). files.HasRecords w y.journal q) (sym becomes.is) (h.state s has);
}

-- over the regions
pub here_at : (js : List RegionJournal) (r : ℕ) → r < length js → (x : RegionJournal) × (slice_get js r ≡ Some x)
here_at js r there = turns.found js r there

pub round_begins : (u : View) (round : Round) (g : ℕ) (old : List RegionJournal) (hard waiting : ℕ → List JournalRecord) → AreOpen u g (Before round) old
    → ((r : ℕ) (x : RegionJournal) → slice_get old r ≡ Some x → files.HasRecords u x.journal (before round (hard r) (waiting r)))
    → AtEachMoment u u (OnlyIn u (IsNewestFile g (length old)) (Have g (length old) (λ r. StandsRecords (hard r) (waiting r))))
round_begins u round g old hard waiting ready has = only_started u (IsNewestFile g (length old)) (Have g (length old) (λ r. StandsRecords (hard r) (waiting r))) (λ c now r there.
    let x = here_at old r there in
    subst (λ (f : ℕ). StandsRecords (hard r) (waiting r) (c f)) (ready.each r x.0 x.1).of.file (stands_before u round x.0.journal (hard r) (waiting r) (has r x.0 x.1) c now))

module _ (round : Round) (u v w : View) (k : ℕ) (old js : List RegionJournal) (y : RegionJournal) (come : HasCome u v (HasDone round) (Becomes round) k old js) (at : slice_get js k ≡ Some y) (there : k < length old) where
  pub round_moments : IsLawful v → ((hard waiting : List JournalRecord) → files.HasRecords v y.journal (before round hard waiting) → AtEachMoment v w (OnlyOn v y.journal.gated.file (StandsRecords hard waiting)))
      → (g : ℕ) (hard waiting : ℕ → List JournalRecord) → AreOpen u g (Before round) old → ((r : ℕ) (x : RegionJournal) → slice_get old r ≡ Some x → files.HasRecords u x.journal (before round (hard r) (waiting r)))
      → AtEachMoment u v (OnlyIn u (IsNewestFile g (length old)) (Have g (length old) (λ r. StandsRecords (hard r) (waiting r))))
      → AtEachMoment u w (OnlyIn u (IsNewestFile g (length old)) (Have g (length old) (λ r. StandsRecords (hard r) (waiting r))))
  round_moments lawful call g hard waiting ready has so_far =
      moments.moments_on u v w g (length old) k y.journal.gated.file ready.few there (turns.file_at (HasDone round) (Becomes round) u v g (Before round) k old js ready come k y at) (λ r. StandsRecords (hard r) (waiting r)) lawful so_far
      (call (hard k) (waiting k) (turns.next_has (HasDone round) (Becomes round) u v g (Before round) k old js ready come y (before round (hard k) (waiting k)) at (λ x was. has k x was)))

  pub round_frame : (g : ℕ) → AreOpen u g (Before round) old → OthersStay (IsNewestFile g (length old)) u v → OthersStay (Only y.journal.gated.file) v w → OthersStay (IsNewestFile g (length old)) u w
  round_frame g ready so_far call = moments.frame_on u v w g (length old) k y.journal.gated.file ready.few there (turns.file_at (HasDone round) (Becomes round) u v g (Before round) k old js ready come k y at) so_far call

-- the rounds of a region to which something was appended
pub bodies_synced : {T E : Type 0} (v w : View) (x y : RegionJournal) (result : Result T E) → IsTrue x.appended → HasSyncs x.journal → y.appended ≡ x.appended → files.IsSameJournal x.journal y.journal
    → OnOk result (files.IsReady w y.journal) → OnOk result (y.journal.gated.syncs_left + 1 ≡ x.journal.gated.syncs_left) → OnOk result (files.IsSynced y.journal)
    → OnOk result ((s : Recorded) → files.HasRecords v x.journal s → files.HasRecords w y.journal (synced s)) → OnOk result ((r : ℕ) → Turned v w (HasDone SyncBodies) (Becomes SyncBodies) r x y)
bodies_synced v w x y (Err e) appended room flag same ready syncs is_synced state = tt
bodies_synced v w x y (Ok z) appended room flag same ready syncs is_synced state = worked v w SyncBodies x y (record {
  appended = appended;
  flag = flag;
  ready = ready;
  same = same;
  syncs = syncs;
  goes_on = λ yes. (omega (arith, syncs, room), is_synced);
  state = state;
})

pub gates_opened : {T E : Type 0} (v w : View) (x y : RegionJournal) (result : Result T E) → IsTrue x.appended → Before OpenGates x.journal → y.appended ≡ x.appended → files.IsSameJournal x.journal y.journal
    → OnOk result (files.IsReady w y.journal) → OnOk result (y.journal.gated.syncs_left ≡ x.journal.gated.syncs_left)
    → OnOk result ((s : Recorded) → files.HasRecords v x.journal s → files.HasRecords w y.journal (opened s)) → OnOk result ((r : ℕ) → Turned v w (HasDone OpenGates) (Becomes OpenGates) r x y)
gates_opened v w x y (Err e) appended room flag same ready syncs state = tt
gates_opened v w x y (Ok z) appended room flag same ready syncs state = worked v w OpenGates x y (record {
  appended = appended;
  flag = flag;
  ready = ready;
  same = same;
  syncs = omega (arith, syncs);
  goes_on = λ yes. (let least : 1 ≤ x.journal.gated.syncs_left = room.0 in omega (arith, syncs, least));
  state = state;
})

pub gates_synced : (v w : View) (x y : RegionJournal) → IsTrue x.appended → y.appended ≡ false → files.IsSameJournal x.journal y.journal → files.IsReady w y.journal → y.journal.gated.syncs_left + 1 ≡ x.journal.gated.syncs_left
    → ((s : Recorded) → files.HasRecords v x.journal s → files.HasRecords w y.journal (synced s)) → (r : ℕ) → Turned v w (HasDone SyncGates) (Becomes SyncGates) r x y
gates_synced v w x y appended flag same ready syncs state = worked v w SyncGates x y (record {
  appended = appended;
  flag = flag;
  ready = ready;
  same = same;
  syncs = syncs;
  goes_on = λ yes. not_appended y.appended flag yes;
  state = state;
})

-- nothing is done
pub none_done : (v : View) (round : Round) (x : RegionJournal) (hard waiting : List JournalRecord) → files.HasRecords v x.journal (before round hard waiting) → AtEachMoment v v (OnlyOn v x.journal.gated.file (StandsRecords hard waiting))
none_done v round x hard waiting has = only_started v (Only x.journal.gated.file) (λ c. StandsRecords hard waiting (c x.journal.gated.file)) (stands_before v round x.journal hard waiting has)
