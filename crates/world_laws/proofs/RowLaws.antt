-- What each row leaves of its place: a line a command.
use Rattle.std.proofs.Common.{◌≡◌, ◌⊎◌, inl, inr, ℕ, ◌<◌, Bool, true, false, List, [], ◌∷◌, Option, Some, None, IsTrue, refl, sym, ◌∙◌, ap, subst, if◌then◌else◌}
use Rattle.std.proofs.lemmas.Bool.{cases_lt, false≢true}
use Rattle.std.specs.List.{list_all}
use Rattle.std.specs.Cmp.Lexicographic.{same_text}
use Rattle.global_defs.specs.Jobs.{Job}
use Rattle.global_defs.specs.Serial.{Turn}
use Rattle.global_defs.specs.Entry.{Stamp}
use Rattle.global_defs.specs.Beside.{Along}
use Rattle.global_defs.specs.Region.{Region}
use Rattle.command_defs.specs.Commands.{Name, Command, Create, Attach, SetJournal, Map, StartPrimary, Run, Stop, Epoch, Resync, RecoverBackward, RecoverForward, Fuse, Crash, Extract, Zwrite, Show, Print, IsFormed}
use Rattle.command_defs.specs.Updaters.{is_updater}
use Rattle.site_defs.specs.Contents.{Contents, Standing}
use Rattle.site_defs.specs.Fronts.{turn_of}
use Rattle.site_defs.specs.Lists.{Among}
use Rattle.site_defs.specs.Epochs.{marked, MayMark, MayMarkLeft}
use Rattle.site_defs.specs.Forward.{MayRecoverAs}
use Rattle.site_defs.specs.Opening.{MayBegin, MayMap, MaySetMode}
use Rattle.world_defs.specs.World.{Down, Place, Site, World, Kept, is_site_named, is_free, name_on, place_of}
use Rattle.world_defs.specs.Answers.{Cause, Exists, Refusal, Section, Answer, Done, Refused, DiskFault, NotAFile, Ran, Typed}
use Rattle.world_defs.specs.Changes.{Stays, Fails, Becomes}
use Rattle.world_defs.specs.Without.{IsWithoutNeed}
use Rattle.world_defs.specs.Row.{writing, first, refused_with, or_else, in_state, why_not_down, refusal_in}
use Rattle.world_defs.specs.Meaning.{apart, Acts, refusing, on_next, row_at}
use Rattle.world_defs.specs.rows.{target, meaning}
use Rattle.world_defs.specs.Step.{Step, CutOff}
use Rattle.world_defs.specs.rows.Attach.{ATTACHING, attach}
use Rattle.world_defs.specs.rows.Crash.{Crashes}
use Rattle.world_defs.specs.rows.Create.{MayMake, create}
use Rattle.world_defs.specs.rows.Extract.{extract}
use Rattle.world_defs.specs.rows.Map.{map_pattern}
use Rattle.world_defs.specs.rows.Print.{print}
use Rattle.world_defs.specs.rows.Recover.{RecoveryMayRefuse, recover}
use Rattle.world_defs.specs.rows.Rollback.{MayRollBackTo, rollback}
use Rattle.world_defs.specs.rows.Run.{RunsTo, one_further, run}
use Rattle.world_defs.specs.rows.SetJournal.{set_journal}
use Rattle.world_defs.specs.rows.Start.{StartRefused, StartMayRefuse, is_reign_limit, generation_limit, need_forward, reign_limit, limited, start}
use Rattle.world_defs.specs.Fit.{IsFitContents, IsFitPlace}
use Rattle.world_laws.specs.Settled.{IsOpenSite}
use Rattle.world_laws.specs.Entries.{IsSiteOf, Every, HasNotDropped}
use Rattle.world_laws.specs.Faults.{IsFault}
use Rattle.world_laws.proofs.PlacesFit.{fit-creates, fit-maps, fit-sets, fit-marks, fit-stops_marked, fit-none_fails, fit-may_make, fit-maps_some, fit-sets_some, fit-marks_some, fit-attaches, fit-crashes}
use Rattle.world_laws.proofs.ReignsFit.{fit-starts, fit-begins_some, fit-refused}
use Rattle.world_laws.proofs.RollsFit.{fit-rolls, fit-rolls_some, fit-recovers, fit-recovers_some}
use Rattle.world_laws.proofs.SectionsFit.{fit-runs, fit-run_left}
use Rattle.world_laws.proofs.Opens.{open-closed, open-failed, open-down}
use Rattle.world_laws.proofs.EntriesStay.{HasAt, entries-stays, entries-becomes, entries-sets, entries-crash, entries-ran, KeepsEntries, entries-some, free-keeps, StayBefore, entries-rolls, entries-rolls_some, same-map, same-set, same-begin, same-mark, same-recover}
use Rattle.world_laws.proofs.Counts.{later}
use Rattle.world_laws.proofs.Lasts.{Lasts, Leaves, CutsOff, lasts-kept, lasts-changed, lasts-stays, lasts-some, quietly, risen, step-fails, site-fails, read-fails, cut-left, cut-old}
use Rattle.world_laws.proofs.Laws.{RowLaws, Holds, TargetLaws, quiet_laws, laws_there, next_laws, target_laws, goes_holds, cut_holds}

-- limits

no_cause : (name : Name) (o : Option Cause) → refused_with name o ≡ None → o ≡ None
no_cause name None e = refl
no_cause name (Some cause) e = cc

no_last : (a b d : Option Cause) → first (a ∷ b ∷ d ∷ []) ≡ None → d ≡ None
no_last None None None e = refl
no_last None None (Some d) e = cc
no_last None (Some b) d e = cc
no_last (Some a) b d e = cc

no_else : (a b : Option Refusal) → or_else a b ≡ None → b ≡ None
no_else None b e = e
no_else (Some a) b e = cc

unlimited : (told : Bool) (a b d : Option Cause) → told ≡ true → (if told then first (a ∷ b ∷ d ∷ []) else None) ≡ None → d ≡ None
unlimited true a b d t e = no_last a b d e
unlimited false a b d t e = absurd (false≢true t)

may_start : (name : Name) (p : Place) → refusal_in (start name p) ≡ None → IsTrue p.told → reign_limit p.now ≡ None
may_start name p none t =
    unlimited p.told (generation_limit p.now) (need_forward p.now) (reign_limit p.now) t (no_cause name (limited p) (no_else (refused_with name (in_state why_not_down p.site)) (refused_with name (limited p)) none))

-- rows

module _ (F : Type 0) (K : List Answer → Name → ℕ → Type 0) where
  start-refused : (past : Bool) (p q : Place) → StartRefused past p q → Lasts F Every p q
  start-refused true p q r = lasts-stays F _ _ _ p q (λ f h. fit-refused p q h r) (entries-some _ p q (entries-becomes _ _ p q (λ name n e h t. h.now t) r)) r
  start-refused false p q r = lasts-kept F _ p q r

  may-start : (cause : Cause) (p q : Place) → StartMayRefuse cause p q → Lasts F Every p q
  may-start cause p q (inl k) = lasts-kept F _ p q k.1.kept
  may-start cause p q (inr (inl c)) = lasts-changed F _ p q c.1
  may-start cause p q (inr (inr k)) = lasts-kept F _ p q k.3

  start-laws : (p : Place) → RowLaws F K p (row_at start p)
  start-laws p = record {
    done = λ q none d. quietly F _ Done p q (λ t. t) (lasts-stays F _ _ _ p q (λ f h. fit-starts p q (may_start name p none) h d) (entries-some _ p q (entries-becomes _ _ p q (λ name n e h t. subst (HasAt n e) (sym (d.as_before t)) (h.now t)) d.becomes)) d.becomes);
    ran = λ s q d. absurd d;
    typed = λ text q d. absurd d;
    fault = λ k q d. site-fails F _ k (MayBegin name p.left.broken) _ p q (fit-begins_some name p) (same-begin name p.left.broken) d;
    damage = λ file offset q d. quietly F _ (NotAFile file offset) p q (λ t. t) (elim d [ inl k ↦ lasts-kept F _ p q k.kept | inr c ↦ lasts-changed F _ p q c.2 ]);
    refused = λ r q d. quietly F _ (Refused r) p q (λ t. t) (lasts-some F _ p q (start-refused (is_reign_limit r.cause) p q d));
    may_refuse = λ r q d. quietly F _ (Refused r) p q (λ t. t) (lasts-some F _ p q (may-start r.cause p q d.1));
    left = λ q l. cut-left F (MayBegin name p.left.broken) _ p q (λ f h t c o a m. (fit-begins_some name p h t c o a m).0) l;
  }
    where
      name : Name
      name = name_on p.site

  map-laws : (region : Name) (text : List ℕ) (p : Place) → RowLaws F K p (row_at (map_pattern region text) p)
  map-laws region text p = record {
    done = λ q none d. quietly F _ Done p q (λ t. t) (lasts-stays F _ _ _ p q (λ f h. fit-maps region text p q h d) (entries-some _ p q (entries-becomes _ _ p q (λ name n e h t. subst (HasAt n e) (sym (d.as_before t)) (h.now t)) d.becomes)) d.becomes);
    ran = λ s q d. absurd d;
    typed = λ bytes q d. absurd d;
    fault = λ k q d. site-fails F _ k (MayMap region text) _ p q (fit-maps_some region text p) (same-map region text) d;
    damage = λ file offset q d. quietly F _ (NotAFile file offset) p q (λ t. t) (lasts-kept F _ p q d.kept);
    refused = λ r q d. quietly F _ (Refused r) p q (λ t. t) (lasts-kept F _ p q d);
    may_refuse = λ r q d. quietly F _ (Refused r) p q (λ t. t) (lasts-kept F _ p q d.2.kept);
    left = λ q l. cut-left F (MayMap region text) _ p q (λ f h t c o a m. (fit-maps_some region text p h t c o a m).0) l;
  }

  set-laws : (region : Name) (before : Bool) (p : Place) → RowLaws F K p (row_at (set_journal region before) p)
  set-laws region before p = record {
    done = λ q none d. quietly F _ Done p q (λ t. t)
        (record { fit = λ f h. fit-sets region before p q h d; while_open = open-down p q d.becomes.site; entries = entries-some _ p q (entries-sets region before p q d); later = later p q d.becomes.faults });
    ran = λ s q d. absurd d;
    typed = λ text q d. absurd d;
    fault = λ k q d. site-fails F _ k (MaySetMode region before) _ p q (fit-sets_some region before p) (same-set region before) d;
    damage = λ file offset q d. quietly F _ (NotAFile file offset) p q (λ t. t) (lasts-kept F _ p q d.kept);
    refused = λ r q d. quietly F _ (Refused r) p q (λ t. t) (lasts-kept F _ p q d);
    may_refuse = λ r q d. quietly F _ (Refused r) p q (λ t. t) (lasts-kept F _ p q d.1.kept);
    left = λ q l. cut-left F (MaySetMode region before) _ p q (λ f h t c o a m. (fit-sets_some region before p h t c o a m).0) l;
  }

  ran-leaves : (s : Section) (fault : Option ℕ) (stamp : Stamp) (t further : Turn) (p q : Place) → s.fault ≡ fault → (F → IsFitPlace p → IsFitPlace q) → KeepsEntries p q → RunsTo stamp t further fault p q → Leaves F (K (Ran s ∷ [])) (Ran s) p q
  ran-leaves s None stamp t further p q e fit entries r = quietly F _ (Ran s) p q (λ t. subst IsFault e t) (lasts-stays F _ _ _ p q fit (entries-some _ p q entries) r.becomes)
  ran-leaves s (Some k) stamp t further p q e fit entries r = risen F _ (Ran s) k p q r.count r.rose fit (open-failed k p q r.site) (entries-some _ p q entries)

  -- its updaters are some of a section's
  run-laws : (jobs : List (List Job)) (order : List ℕ) (p : Place) → (F → list_all is_updater order ≡ true) → RowLaws F K p (row_at (run jobs order) p)
  run-laws jobs order p updaters = record {
    done = λ q none d. absurd d;
    ran = λ s q d. ran-leaves s s.fault d.stamp (turn_of d.stamp d.serials jobs s.picks p.now.sequence) (turn_of d.stamp d.serials jobs (one_further order s.picks) p.now.sequence) p q refl
        (λ f h. fit-runs (name_on p.site) jobs order s p q (updaters f) h d) (entries-ran (name_on p.site) jobs order s p q d) d.ran;
    typed = λ text q d. absurd d;
    fault = λ k q d. absurd d;
    damage = λ file offset q d. absurd d;
    refused = λ r q d. quietly F _ (Refused r) p q (λ t. t) (lasts-kept F _ p q d);
    may_refuse = λ r q d. absurd d;
    left = λ q l. cut-left F _ _ p q (λ f h t c o a m. fit-run_left p.site jobs order p o refl (updaters f) h t m) l;
  }

  extract-laws : (from : Option ℕ) (p : Place) → RowLaws F K p (row_at (extract from) p)
  extract-laws from p = record {
    done = λ q none d. absurd d;
    ran = λ s q d. absurd d;
    typed = λ text q d. quietly F _ (Typed text) p q (λ t. t) (lasts-kept F _ p q d.kept);
    fault = λ k q d. read-fails F _ k p q d;
    damage = λ file offset q d. quietly F _ (NotAFile file offset) p q (λ t. t) (lasts-kept F _ p q d.kept);
    refused = λ r q d. quietly F _ (Refused r) p q (λ t. t) (lasts-kept F _ p q d);
    may_refuse = λ r q d. absurd d;
    left = λ q l. cut-old F p q l;
  }

  print-laws : (lost : Bool) (g : ℕ) (p : Place) → RowLaws F K p (row_at (print lost g) p)
  print-laws lost g p = record {
    done = λ q none d. absurd d;
    ran = λ s q d. absurd d;
    typed = λ text q d. quietly F _ (Typed text) p q (λ t. t) (lasts-kept F _ p q d.kept);
    fault = λ k q d. read-fails F _ k p q d;
    damage = λ file offset q d. absurd d;
    refused = λ r q d. quietly F _ (Refused r) p q (λ t. t) (lasts-kept F _ p q d);
    may_refuse = λ r q d. quietly F _ (Refused r) p q (λ t. t) (lasts-kept F _ p q d.1.kept);
    left = λ q l. cut-old F p q l;
  }

  -- a ROLLBACK, by which entries from its number on may go
  rollback-laws : (number : ℕ) (p : Place) → StayBefore (K (Done ∷ [])) number p → ((k : ℕ) → StayBefore (K (DiskFault k ∷ [])) number p) → RowLaws F K p (row_at (rollback number) p)
  rollback-laws number p done fault = record {
    done = λ q none d. quietly F _ Done p q (λ t. t) (lasts-stays F _ _ _ p q (λ f h. fit-rolls number p q h d) (entries-rolls _ number p q done d) d.becomes);
    ran = λ s q d. absurd d;
    typed = λ text q d. absurd d;
    fault = λ k q d. step-fails F _ k (MayRollBackTo number p.left.broken) _ p q (fit-rolls_some number p) (entries-rolls_some _ number k p.left.broken _ p q (fault k) d) d;
    damage = λ file offset q d. quietly F _ (NotAFile file offset) p q (λ t. t) (lasts-kept F _ p q d.kept);
    refused = λ r q d. quietly F _ (Refused r) p q (λ t. t) (lasts-kept F _ p q d);
    may_refuse = λ r q d. quietly F _ (Refused r) p q (λ t. t) (elim d [ inl k ↦ lasts-kept F _ p q k.1.kept | inr k ↦ lasts-kept F _ p q k.4 ]);
    left = λ q l. cut-left F (MayRollBackTo number p.left.broken) _ p q (λ f h t c o a m. (fit-rolls_some number p h t c o a m).0) l;
  }

  may-recover : (anew : Bool) (cause : Cause) (p q : Place) → RecoveryMayRefuse anew cause p q → Kept p q
  may-recover true cause p q k = k.1.kept
  may-recover false cause p q (inl k) = k.1.kept
  may-recover false cause p q (inr k) = k.3

  recover-laws : (anew : Bool) (p : Place) → RowLaws F K p (row_at (recover anew) p)
  recover-laws anew p = record {
    done = λ q none d. quietly F _ Done p q (λ t. t)
        (lasts-stays F _ _ _ p q (λ f h. fit-recovers anew p q h d) (entries-some _ p q (entries-becomes _ _ p q (λ name n e h t. subst (HasAt n e) (sym (d.as_before t)) (h.now t)) d.becomes)) d.becomes);
    ran = λ s q d. absurd d;
    typed = λ text q d. absurd d;
    fault = λ k q d. site-fails F _ k (MayRecoverAs anew p.left.broken) _ p q (fit-recovers_some anew p) (same-recover anew p.left.broken) d;
    damage = λ file offset q d. quietly F _ (NotAFile file offset) p q (λ t. t) (lasts-kept F _ p q d.kept);
    refused = λ r q d. quietly F _ (Refused r) p q (λ t. t) (lasts-kept F _ p q d);
    may_refuse = λ r q d. quietly F _ (Refused r) p q (λ t. t) (lasts-kept F _ p q (may-recover anew r.cause p q d.1));
    left = λ q l. cut-left F (MayRecoverAs anew p.left.broken) _ p q (λ f h t c o a m. (fit-recovers_some anew p h t c o a m).0) l;
  }

  -- rows of disks without a site

  none-fails : (k : ℕ) (step : Contents → Contents → Type 0) (so : Option (List Standing) → Option (List Standing) → Type 0) (p q : Place) → is_free p.site ≡ true
      → (IsFitPlace p → IsTrue p.told → (c o : Contents) → Among p.outcomes c → step c o → IsFitContents o) → Fails k None step so p q → Leaves F (K (DiskFault k ∷ [])) (DiskFault k) p q
  none-fails k step so p q free fit d =
      risen F _ (DiskFault k) k p q d.count d.rose (λ f h. fit-none_fails k step so p q (fit h) d) (open-closed p q (λ up. subst IsOpenSite d.site up)) (entries-some _ p q (free-keeps p free q))

  create-laws : (regions : List Region) (name : Name) (p : Place) → is_free p.site ≡ true → RowLaws F K p (create regions name p)
  create-laws regions name p free = record {
    done = λ q none d. quietly F _ Done p q (λ t. t) (lasts-stays F _ _ _ p q (λ f h. fit-creates regions name p q d) (entries-some _ p q (free-keeps p free q)) d);
    ran = λ s q d. absurd d;
    typed = λ text q d. absurd d;
    fault = λ k q d. none-fails k (MayMake name regions) _ p q free made d;
    damage = λ file offset q d. quietly F _ (NotAFile file offset) p q (λ t. t) (lasts-kept F _ p q d.kept);
    refused = λ r q d. quietly F _ (Refused r) p q (λ t. t) (lasts-kept F _ p q d);
    may_refuse = λ r q d. quietly F _ (Refused r) p q (λ t. t) (lasts-kept F _ p q d.1.kept);
    left = λ q l. cut-left F (MayMake name regions) _ p q (λ f. made) l;
  }
    where
      made : IsFitPlace p → IsTrue p.told → (c o : Contents) → Among p.outcomes c → MayMake name regions c o → IsFitContents o
      made h t c o a m = fit-may_make regions name c o (h.outcomes t c a) m

  attach-laws : (w : World) (p : Place) → is_free p.site ≡ true → RowLaws F K p (attach w p)
  attach-laws w p free = record {
    done = λ q none d. quietly F _ Done p q (λ t. t)
        (record { fit = λ f h. fit-attaches w p q h d; while_open = open-closed p q (λ up. subst IsOpenSite d.site up); entries = entries-some _ p q (free-keeps p free q); later = later p q d.faults });
    ran = λ s q d. absurd d;
    typed = λ text q d. absurd d;
    fault = λ k q d. none-fails k (λ c o. o ≡ c) _ p q free (λ h t c o a m. subst IsFitContents (sym m) (h.outcomes t c a)) d;
    damage = λ file offset q d. quietly F _ (NotAFile file offset) p q (λ t. t) (lasts-kept F _ p q d.kept);
    refused = λ r q d. quietly F _ (Refused r) p q (λ t. t) (lasts-kept F _ p q d);
    may_refuse = λ r q d. quietly F _ (Refused r) p q (λ t. t) (lasts-kept F _ p q d.1.kept);
    left = λ q l. cut-old F p q l;
  }

  -- rows that take an epoch

  mark-laws : (name : Name) (early : Option Refusal) (done : Place → Type 0) (says : Place → List ℕ) (p : Place) → ((q : Place) → done q → Lasts F (K (Done ∷ [])) p q)
      → RowLaws F K p (record (writing name MayMark MayMarkLeft p) { early = early; damage = λ file offset q. ⊥; done = done; says = says })
  mark-laws name early done says p f = record {
    done = λ q none d. quietly F _ Done p q (λ t. t) (f q d);
    ran = λ s q d. absurd d;
    typed = λ text q d. absurd d;
    fault = λ k q d. site-fails F _ k MayMark _ p q (fit-marks_some p) same-mark d;
    damage = λ file offset q d. absurd d;
    refused = λ r q d. quietly F _ (Refused r) p q (λ t. t) (lasts-kept F _ p q d);
    may_refuse = λ r q d. absurd d;
    left = λ q l. cut-left F MayMark _ p q (λ f h t c o a m. (fit-marks_some p h t c o a m).0) l;
  }

  stop-lasts : (p q : Place) → Becomes Down (marked p.now) p q × IsWithoutNeed q → Lasts F (K (Done ∷ [])) p q
  stop-lasts p q d = lasts-stays F _ _ _ p q (λ f h. fit-stops_marked p q h d.0) (entries-some _ p q (entries-becomes _ _ p q (λ name n e h t. h.now t) d.0)) d.0

  epoch-lasts : (p q : Place) → Stays p.site (marked p.now) p q × IsWithoutNeed q → Lasts F (K (Done ∷ [])) p q
  epoch-lasts p q d = lasts-stays F _ _ _ p q (λ f h. fit-marks p q h d.0) (entries-some _ p q (entries-stays p.site _ p q (λ name h. h) (λ name n e h t. h.now t) d.0)) d.0

  crash-lasts : (p q : Place) → Crashes p q → Lasts F (K (Done ∷ [])) p q
  crash-lasts p q d = record { fit = λ f h. fit-crashes p q h d; while_open = open-down p q d.site; entries = entries-some _ p q (entries-crash p q d); later = later p q d.faults }

-- commands

-- a site that was found by a name has it
named_so : (found : Name) (o : Option Site) → is_site_named found o ≡ true → (name : Name) → IsSiteOf name o → name ≡ found
named_so found None e name h = absurd h
named_so found (Some site) e name h = sym h ∙ same_text site.name found (sym e)

-- an entry that a ROLLBACK to that number leaves is before it
stays_before : (name : Name) (number : ℕ) (own : Name) (n : ℕ) (answers : List Answer) → own ≡ name → (answers ≡ Done ∷ []) ⊎ ((k : ℕ) × (answers ≡ DiskFault k ∷ [])) → HasNotDropped (Resync name number) answers own n → n < number
stays_before name number own n answers same ends kept = elim (cases_lt n number) [
  | inl low ↦ low
  | inr behind ↦ absurd (kept (record { number = number; is = ap (λ (x : Name). Resync x number) (sym same); behind = behind; ends = ends }))
]

command-laws : (c : Command) → TargetLaws (IsFormed c) (HasNotDropped c) (target c)
command-laws (Create name regions) = λ w. laws_there _ _ (on_next w name (λ i p. Acts i (create regions name p) apart)) w (place_of w name) (λ i p. refusing name Exists)
    (next_laws _ _ name w (create regions name) (create-laws _ _ regions name)) (λ i p o e. tt)
command-laws Attach = λ w. next_laws _ _ ATTACHING w (attach w) (attach-laws _ _ w)
command-laws (SetJournal name region before) = λ p found. set-laws _ _ region before p
command-laws (Map name region text) = λ p found. map-laws _ _ region text p
command-laws (StartPrimary name) = λ p found. start-laws _ _ p
command-laws (Run name jobs order) = λ p found. run-laws _ _ jobs order p (λ formed. formed.2)
command-laws (Stop name) = λ p found. mark-laws _ _ _ _ _ _ p (λ q d. stop-lasts _ (HasNotDropped (Stop name)) p q d)
command-laws (Epoch name) = λ p found. mark-laws _ _ _ _ _ _ p (λ q d. epoch-lasts _ (HasNotDropped (Epoch name)) p q d)
command-laws (Resync name number) = λ p found. rollback-laws _ _ number p
    (λ own n h kept. stays_before name number own n (Done ∷ []) (named_so name p.site found own h) (inl refl) kept)
    (λ k own n h kept. stays_before name number own n (DiskFault k ∷ []) (named_so name p.site found own h) (inr (k, refl)) kept)
command-laws (RecoverBackward name) = λ p found. recover-laws _ _ false p
command-laws (RecoverForward name) = λ p found. recover-laws _ _ true p
command-laws (Fuse name calls) = λ p found. quiet_laws _ _ _ _ _ _ p (λ q d. lasts-kept _ _ p q d)
command-laws (Crash name pick) = λ p found. quiet_laws _ _ _ _ _ _ p (λ q d. crash-lasts _ (HasNotDropped (Crash name pick)) p q d)
command-laws (Extract name from) = λ p found. extract-laws _ _ from p
command-laws (Zwrite name top) = λ p found. quiet_laws _ _ _ _ _ _ p (λ q d. lasts-kept _ _ p q d)
command-laws (Show name) = λ p found. quiet_laws _ _ _ _ _ _ p (λ q d. lasts-kept _ _ p q d)
command-laws (Print name lost g) = λ p found. print-laws _ _ lost g p

pub step_holds : (w m : World) (c : Command) (answers : List Answer) (text : List ℕ) → Step w c answers m text → Holds (IsFormed c) (HasNotDropped c answers) answers w m
step_holds w m c answers text h = goes_holds (IsFormed c) (HasNotDropped c) (meaning w c) answers w m text (target_laws (IsFormed c) (HasNotDropped c) (target c) w (command-laws c)) h

pub cut_off_holds : (w m : World) (c : Command) → CutOff w c m → Along (λ j. CutsOff (IsFormed c)) w.places m.places
cut_off_holds w m c h = cut_holds (IsFormed c) (HasNotDropped c) (meaning w c) w m (target_laws (IsFormed c) (HasNotDropped c) (target c) w (command-laws c)) h
