-- ROLLBACK RESYNC at a place.
use Rattle.std.proofs.Common.{◌≡◌, ℕ, ◌+◌, ◌-◌, ◌≤◌, ◌<◌, min, Bool, true, false, List, [], ◌∷◌, ◌++◌, length, drop, map, None, Some, refl, sym, ◌∙◌, ap, subst, arith, inl, inr, if◌then◌else◌, length-take-le}
use Rattle.std.specs.Prelude.{◌⊎◌, codes, IfSome, IsSome}
use Rattle.std.specs.Fmt.{decimal}
use Rattle.disk_defs.specs.Disk.{Files, View, Image, IsLawful, AtEachMoment, Rose}
use Rattle.global_defs.specs.Entry.{Sequence}
use Rattle.global_defs.specs.Extract.{field, entries_text}
use Rattle.journal_defs.specs.Numbers.{INSTANCE}
use Rattle.journal_defs.specs.Instance as records
use Rattle.journal_defs.specs.Instance.{InstanceRecord, generation, regions, site_name}
use Rattle.journal_defs.specs.Sequence.{Records, IsSequence}
use Rattle.journal_defs.specs.Stands.{IsInstance, AreRecords}
use Rattle.journal_laws.proofs.Drawing.{generation-cut}
use Rattle.command_defs.specs.Commands.{Name}
use Rattle.site_defs.specs.Lists.{Among}
use Rattle.site_defs.specs.Contents.{Contents, Leftover, Standing, bare}
use Rattle.site_defs.specs.Opening.{cut_with, with_starts}
use Rattle.site_defs.specs.OutsideBlocks.{IsOutsideRollback}
use Rattle.site_defs.specs.Rolling.{lost_text, kept_first, rolled_open, rolled, MayRollBack, MayRollBackLeft}
use Rattle.site_defs.specs.Stands.{IsSite, HasLeft}
use Rattle.site_store.specs.Opening.{EachStands}
use Rattle.mupip_rollback.specs.Rolling.{StandsFor}
use Rattle.site_store.specs.Needing.{NoneIsWithout}
use Rattle.world_defs.specs.World.{Place, UNTOLD, AmongCovered, AmongCoveredSo, IfShown}
use Rattle.world_defs.specs.Answers.{GenLimit, Refusal, line}
use Rattle.world_defs.specs.Row.{first, refused_with, in_state, why_not_down, where_known}
use Rattle.world_defs.specs.rows.Start.{generation_limit}
use Rattle.world_defs.specs.rows.Rollback.{stay_of, before_cause, no_before, MayRollBackTo, MayRollBackToLeft, RolledBackBy, RollbackRefusedBy, rollback}
use Rattle.site_runner.specs.Sites.{IsOf, Down, Failed, Site}
use Rattle.site_runner.specs.Steps.{IsAt, ExecutesAt, IsCutAt}
use Rattle.site_runner.specs.Refusing.{IsDownAt}
use Rattle.site_runner.proofs.Amongs.{among_first, among_second, among_either, among_map, map_among}
use Rattle.site_runner.proofs.Ats.{first_cause, no_cause, comes_done, comes_refused, comes_may_refuse, comes_fault, comes_damaged, refused_late, none_refused, is_true_or_false, some_both, reads_site, is_site, stands_told, by_shown, shown_unwritten, Leftovers}
use Rattle.site_runner.proofs.Begun.{starts_up_to, among_starts, any_among, of_more, generation_past, generation_left}
use Rattle.site_runner.proofs.Marked.{marks, among_marks, marks_are, among_left, left_are, of_marked}
use Rattle.site_runner.proofs.Seen.{counted, kept_counted}
use Rattle.site_runner.proofs.Started.{each_stands, unknown_at, stand_one}
use Rattle.world_laws.proofs.Bare.{none_needing}
use Rattle.site_runner.proofs.Leaving.{Ends, EndsSo, left_cut, left_failed, Done, done_at, down_at, still_down, down_counted, early_none, StepsAt, StepsSo, may_have, WasRead, HeldSo, was_read}
use Rattle.gvn_globals.proofs.Basics.{false_of as not_true}
use Rattle.site_store.proofs.Unwritten.{some_read as if_some}

-- What a rollback may leave. Of the lost-transaction file that it was writing nothing is told.

abbrev rolls_to : ℕ → List ℕ → Contents → List Contents
rolls_to t broken c = c ∷ cut_with broken UNTOLD c ∷ (starts_up_to (length (regions (kept_first t broken c).instance)) (kept_first t broken c) ++ marks (rolled_open t broken c))

some_bytes : (b : ℕ) (xs : List ℕ) → 1 ≤ length (b ∷ xs)
some_bytes b xs = omega arith

untold_fits : (t : ℕ) (c : Contents) → length UNTOLD ≤ length (lost_text t c)
untold_fits t c = some_bytes 71 ((codes "TMRJEX01" ++ (field (site_name c.instance) ++ field (decimal (t + 1)) ++ 10 ∷ [])) ++ entries_text (t + 1) (drop (t + 1 - 1) c.sequence))

rolls_are : (t : ℕ) (broken : List ℕ) (c o : Contents) → Among (rolls_to t broken c) o → MayRollBack t broken c o
rolls_are t broken c o (inl e) = inl e
rolls_are t broken c o (inr (inl e)) = inr (inl (UNTOLD, untold_fits t c, e))
rolls_are t broken c o (inr (inr h)) =
    let d : Contents = kept_first t broken c in
    elim (among_either (starts_up_to (length (regions d.instance)) d) (marks (rolled_open t broken c)) o h) [
      | inl a ↦ inr (inr (inl (among_starts (length (regions d.instance)) d o a)))
      | inr b ↦ elim (marks_are (rolled_open t broken c) o b) [
        | inl e ↦ inr (inr (inl (length (regions c.instance), e)))
        | inr m ↦ inr (inr (inr m))
      ]
    ]

rolls_cover : (t : ℕ) (broken : List ℕ) (c o : Contents) → MayRollBack t broken c o → AmongCovered (rolls_to t broken c) o
rolls_cover t broken c o (inl e) = (o, inl e, inl refl)
rolls_cover t broken c o (inr (inl k)) = (cut_with broken UNTOLD c, inr (inl refl), inr (record { before = c.losts; untold = refl; lost = k.0; is = k.2 }))
rolls_cover t broken c o (inr (inr (inl k))) = (o, inr (inr (among_first _ (marks (rolled_open t broken c)) o (any_among k.0 (kept_first t broken c) o k.1))), inl refl)
rolls_cover t broken c o (inr (inr (inr m))) =
    (o, inr (inr (among_second (starts_up_to (length (regions (kept_first t broken c).instance)) (kept_first t broken c)) _ o (among_marks (rolled_open t broken c) o (inr m)))), inl refl)

of_cut : (name : Name) (broken lost : List ℕ) (c : Contents) → IsOf name c → IsOf name (cut_with broken lost c)
of_cut name broken lost c h = of_more name c (cut_with broken lost c) (records.Cut (length c.sequence) (generation c.instance + 1) ∷ []) refl h

of_kept : (name : Name) (t : ℕ) (broken : List ℕ) (c : Contents) → IsOf name c → IsOf name (kept_first t broken c)
of_kept name t broken c h =
    let d : Contents = cut_with broken (lost_text t c) c in
    of_more name d (kept_first t broken c) (records.Cut t (generation d.instance + 1) ∷ []) refl (of_cut name broken (lost_text t c) c h)

of_begun : (name : Name) (k : ℕ) (c : Contents) → IsOf name c → IsOf name (with_starts k c)
of_begun name k c h = record { made = h.made; name = h.name }

of_rolls : (t : ℕ) (broken : List ℕ) (name : Name) (c o : Contents) → MayRollBack t broken c o → IsOf name c → IsOf name o
of_rolls t broken name c o (inl e) h = subst (IsOf name) (sym e) h
of_rolls t broken name c o (inr (inl k)) h = subst (IsOf name) (sym k.2) (of_cut name broken k.0 c h)
of_rolls t broken name c o (inr (inr (inl k))) h = subst (IsOf name) (sym k.1) (of_begun name k.0 (kept_first t broken c) (of_kept name t broken c h))
of_rolls t broken name c o (inr (inr (inr m))) h = of_marked name (rolled_open t broken c) o (inr m) (of_begun name (length (regions c.instance)) (kept_first t broken c) (of_kept name t broken c h))

ends : (number : ℕ) (broken : List ℕ) → Ends (MayRollBackTo number broken)
ends number broken = record {
  all = λ c. rolls_to (stay_of number c) broken c;
  are = λ c o a. rolls_are (stay_of number c) broken c o a;
  covers = λ c o m. rolls_cover (stay_of number c) broken c o m;
  of = λ name c o m h. of_rolls (stay_of number c) broken name c o m h;
}

-- the same of standings, each with its own text

abbrev so_to : ℕ → Standing → List Standing
so_to t s = s ∷ bare (cut_with s.broken UNTOLD s.contents)
    ∷ (map bare (starts_up_to (length (regions (kept_first t s.broken s.contents).instance)) (kept_first t s.broken s.contents)) ++ map bare (marks (rolled_open t s.broken s.contents)))

so_are : (t : ℕ) (s o : Standing) → Among (so_to t s) o → MayRollBackLeft t s o
so_are t s o (inl e) = inl e
so_are t s o (inr (inl e)) = inr (inl (UNTOLD, untold_fits t s.contents, e))
so_are t s o (inr (inr h)) =
    let d : Contents = kept_first t s.broken s.contents in
    elim (among_either (map bare (starts_up_to (length (regions d.instance)) d)) (map bare (marks (rolled_open t s.broken s.contents))) o h) [
      | inl a ↦
          let k = map_among bare (starts_up_to (length (regions d.instance)) d) o a in
          let starts = among_starts (length (regions d.instance)) d k.0 k.1 in
          inr (inr (inl (starts.0, k.2 ∙ ap bare starts.1)))
      | inr b ↦ elim (left_are (rolled_open t s.broken s.contents) o b) [
        | inl e ↦ inr (inr (inl (length (regions s.contents.instance), e)))
        | inr m ↦ inr (inr (inr m))
      ]
    ]

so_cover : (t : ℕ) (s o : Standing) → MayRollBackLeft t s o → AmongCoveredSo (so_to t s) o
so_cover t s o (inl e) = (o, inl e, record { contents = inl refl; broken = refl })
so_cover t s o (inr (inl k)) = (
  bare (cut_with s.broken UNTOLD s.contents),
  inr (inl refl),
  record { contents = inr (record { before = s.contents.losts; untold = refl; lost = k.0; is = ap (λ (x : Standing). x.contents) k.2 }); broken = ap (λ (x : Standing). x.broken) k.2 },
)
so_cover t s o (inr (inr (inl k))) =
    let d : Contents = kept_first t s.broken s.contents in
    let begun = map bare (starts_up_to (length (regions d.instance)) d) in
    (o, inr (inr (among_first begun _ o (subst (Among begun) (sym k.1) (among_map bare (starts_up_to (length (regions d.instance)) d) _ (any_among k.0 d _ refl))))), record { contents = inl refl; broken = refl })
so_cover t s o (inr (inr (inr m))) =
    let d : Contents = kept_first t s.broken s.contents in
    (o, inr (inr (among_second (map bare (starts_up_to (length (regions d.instance)) d)) _ o (among_left (rolled_open t s.broken s.contents) o (inr m)))), record { contents = inl refl; broken = refl })

ends_so : (number : ℕ) → EndsSo (MayRollBackToLeft number)
ends_so number = record { all = λ s. so_to (stay_of number s.contents) s; are = λ s o a. so_are (stay_of number s.contents) s o a; covers = λ s o m. so_cover (stay_of number s.contents) s o m }

-- it comes to no end

pub rollback_cut : (leftovers : Leftovers) (number : ℕ) (v w : View) (s : Site) → IsLawful w → s.state ≡ Down → StepsAt (MayRollBackTo number) v w → StepsSo (MayRollBackToLeft number) v w → (IsSome v.content → IsSome w.content) → w.simulated ≡ v.simulated → v.faults ≤ w.faults
    → IsCutAt (rollback number s.name) v s w
rollback_cut leftovers number v w s law down steps steps_so still same later p h =
    left_cut leftovers (MayRollBackTo number p.left.broken) (MayRollBackToLeft number) (ends number p.left.broken) (ends_so number) w s.name p law (may_have (MayRollBackTo number) (MayRollBackToLeft number) v w s p law down h steps steps_so still same)
    (omega (arith, later, h.disk.faults))

early_down : (v : View) (number : ℕ) (s : Site) (p : Place) → IsDownAt v s p → (rollback number s.name p).early ≡ None
early_down v number s p h = ap (refused_with s.name) (early_none s p h.down h.site)

pub rollback_fault : (leftovers : Leftovers) (number : ℕ) (v w : View) (s : Site) (k : ℕ) (before now : List ℕ) → IsLawful w → s.state ≡ Down → StepsAt (MayRollBackTo number) v w → StepsSo (MayRollBackToLeft number) v w → (IsSome v.content → IsSome w.content)
    → w.simulated ≡ v.simulated → k ≡ w.faults → Rose v.faults w.faults → now ≡ before ++ line s.name (codes "DISKFAULT " ++ decimal k) → ExecutesAt (rollback number s.name) v s w (record { name = s.name; state = Failed k }) before now false
rollback_fault leftovers number v w s k before now law down steps steps_so still same count rose t p h =
    let l = left_failed leftovers (MayRollBackTo number p.left.broken) (MayRollBackToLeft number) (ends number p.left.broken) (ends_so number) w s p k law h.site h.held.made
    (may_have (MayRollBackTo number) (MayRollBackToLeft number) v w s p law down h steps steps_so still same) count (subst (λ (x : ℕ). Rose x w.faults) h.disk.faults rose) in
    comes_fault k l.becomes (early_down v number s p (down_at v s p down h)) l.fails l.there t

-- nothing was written

limit_known : (number : ℕ) (p : Place) → p.told ≡ true → generation_limit p.now ≡ Some GenLimit → where_known p (first (generation_limit p.now ∷ no_before number p.now ∷ [])) ≡ Some GenLimit
limit_known number p sure g = ap (λ (b : Bool). if b then first (generation_limit p.now ∷ no_before number p.now ∷ []) else None) sure ∙ first_cause (generation_limit p.now) (no_before number p.now ∷ []) GenLimit g

pub rollback_limit : (number : ℕ) (v w : View) (s : Site) (before now : List ℕ) → IsLawful w → s.state ≡ Down → IfSome v.content (λ files. (rs : List InstanceRecord) → IsInstance (files INSTANCE) rs → 65534 ≤ generation rs) → IfSome v.content (RollbackRefusedBy number GenLimit)
    → w.content ≡ v.content → AtEachMoment v w (Image v) → w.simulated ≡ v.simulated → v.faults ≤ w.faults → now ≡ before ++ line s.name (codes "GENLIMIT") → ExecutesAt (rollback number s.name) v s w s before now false
rollback_limit number v w s before now law down limit by content untouched same later t p h = elim (is_true_or_false p.told) [
  | inl sure ↦
      let here = some_both v.content _ _ (stands_told v p h.disk sure) limit in
      let site = is_site here.0 p.now (h.held.made sure).now.made here.1 in
      comes_refused no (counted p w.faults)
      (refused_late s.name (in_state why_not_down p.site) (where_known p (first (generation_limit p.now ∷ no_before number p.now ∷ []))) GenLimit (early_none s p down h.site)
      (limit_known number p sure (generation_past p.now (here.2 p.now.instance (subst (λ (rs : List InstanceRecord). IsInstance (here.0 INSTANCE) rs) site.instance site.image.held.instance)))))
      (kept_counted p w.faults after.faults) bytes (down_counted w s p after) t
  | inr unsure ↦ comes_may_refuse no (counted p w.faults) (early_down w number s p after) (inl (refl, record { unknown = unsure; kept = kept_counted p w.faults after.faults })) bytes (down_counted w s p after) t
]
  where
    no : Refusal
    no = record { site = s.name; cause = GenLimit }

    after : IsDownAt w s p
    after = still_down v w s p law content untouched same later (down_at v s p down h)

    bytes : IfShown p (RollbackRefusedBy number GenLimit)
    bytes = by_shown p.shown v.content (RollbackRefusedBy number GenLimit) h.disk.shown by

pub rollback_damaged : (number : ℕ) (v w : View) (s : Site) (file offset : ℕ) (before now : List ℕ) → s.state ≡ Down → IfSome v.content (λ files. (c : Contents) → IsSite files c → ⊥) → IfSome v.content (λ files. IsOutsideRollback (number - 1) files file offset)
    → IfSome v.content (λ _. w.content ≡ v.content) → w.simulated ≡ v.simulated → v.faults ≤ w.faults → now ≡ before ++ line s.name (codes "NOTAFILE " ++ decimal file ++ 32 ∷ decimal offset) → ExecutesAt (rollback number s.name) v s w s before now false
rollback_damaged number v w s file offset before now down outside bytes unwritten same later t p h =
    let unsure : p.told ≡ false = not_true p.told (λ sure. let here = some_both v.content _ _ (stands_told v p h.disk sure) outside in here.2 p.now (is_site here.0 p.now (h.held.made sure).now.made here.1)) in
    comes_damaged file offset (counted p w.faults) (early_down v number s p (down_at v s p down h)) (record { unknown = unsure; kept = kept_counted p w.faults (omega (arith, later, h.disk.faults)) })
    (by_shown p.shown v.content (λ files. IsOutsideRollback (number - 1) files file offset) h.disk.shown bytes)
    (unknown_at w s p down h.site unsure (shown_unwritten p.shown v.content w.content unwritten h.disk.shown) (same ∙ h.disk.simulated)) t

-- it was done

-- the generation behind two that were drawn
drawn_twice : (rs : List InstanceRecord) (n t : ℕ) → let one = rs ++ records.Cut n (generation rs + 1) ∷ [] in generation (one ++ records.Cut t (generation one + 1) ∷ []) - 1 ≡ generation rs + 1
drawn_twice rs n t =
    let one = rs ++ records.Cut n (generation rs + 1) ∷ [] in
    let first : generation one ≡ generation rs + 1 = generation-cut rs n (generation rs + 1) (omega arith) in
    let second : generation (one ++ records.Cut t (generation one + 1) ∷ []) ≡ generation one + 1 = generation-cut one t (generation one + 1) (omega arith) in
    omega arith

-- so many entries stay of that many, and the lost-transaction file is of the first generation that was drawn
abbrev StaysAndLost : (number kept lost : ℕ) → List InstanceRecord → ℕ → Type 0
StaysAndLost number kept lost rs len = (kept ≡ min (number - 1) len) × (lost ≡ generation rs + 1)

abbrev RolledFrom : (number kept lost : ℕ) → Files → Type 0
RolledFrom number kept lost files = (u : Records) × (seq : Sequence) × AreRecords files u × IsSequence u seq × (kept ≡ min (number - 1) (length seq)) × (lost ≡ generation u.instance + 1) × (generation u.instance < 65534) × NoneIsWithout u (min (number - 1) (length seq))

-- as far as contents tell it each region goes back so far, where each does by the records
goes_back : (number : ℕ) (files : Files) (c : Contents) (u : Records) → IsSite files c → AreRecords files u → NoneIsWithout u (stay_of number c) → no_before number c ≡ None
goes_back number files c u site held none = elim (none_needing files c u (stay_of number c) site held none) [ inl e ↦ ap before_cause e | inr e ↦ ap before_cause e ]

not_limited : (number kept lost : ℕ) (v : View) (s : Site) (p : Place) → IsAt v s p → IfSome v.content (RolledFrom number kept lost) → (p.told ≡ true) ⊎ (p.told ≡ false) → where_known p (first (generation_limit p.now ∷ no_before number p.now ∷ [])) ≡ None
not_limited number kept lost v s p h held (inr unsure) = ap (λ (b : Bool). if b then first (generation_limit p.now ∷ no_before number p.now ∷ []) else None) unsure
not_limited number kept lost v s p h held (inl sure) =
    let here = some_both v.content _ _ (h.disk.told sure) held in
    let site = reads_site here.0 p.now p.left (h.held.made sure).now.made here.1 in
    let one = stand_one here.0 p.now here.2.0 here.2.1 site.0 here.2.2 here.2.3 in
    ap (λ (b : Bool). if b then first (generation_limit p.now ∷ no_before number p.now ∷ []) else None) sure
    ∙ no_cause (generation_limit p.now) (no_before number p.now) (generation_left p.now (subst (λ (rs : List InstanceRecord). generation rs < 65534) (sym one.0) here.2.6))
    (goes_back number here.0 p.now here.2.0 site.0 here.2.2 (subst (λ (seq : Sequence). NoneIsWithout here.2.0 (min (number - 1) (length seq))) (sym one.1) here.2.7))

pub rollback_done : (number : ℕ) (v w : View) (s : Site) (kept lost : ℕ) (before now : List ℕ) → s.state ≡ Down → (c : Contents) × (kept ≡ min (number - 1) (length c.sequence)) × (lost ≡ generation c.instance + 1)
    → IfSome v.content (λ files. (c : Contents) (left : Leftover) → IsSite files c → HasLeft files c left → EachStands v → StandsFor w (rolled (min (number - 1) (length c.sequence)) left.broken c))
    → IfSome v.content (RolledFrom number kept lost)
    → w.simulated ≡ v.simulated → v.faults ≤ w.faults → now ≡ before ++ line s.name (codes "ROLLEDBACK " ++ decimal kept ++ codes " LOST " ++ decimal lost) → ExecutesAt (rollback number s.name) v s w s before now true
rollback_done number v w s kept lost before now down read told held same later t p h =
    comes_done d.becomes
    (none_refused s.name (in_state why_not_down p.site) (where_known p (first (generation_limit p.now ∷ no_before number p.now ∷ []))) (early_none s p down h.site) (not_limited number kept lost v s p h held (is_true_or_false p.told)))
    (record { read = r.read; broken = p.left.broken; as_before = r.as_before; as_left = λ _. refl; bytes = r.bytes; becomes = d.changes; unneeding = d.unneeding })
    (by_shown p.shown v.content (RolledBackBy number) h.disk.shown (if_some v.content (RolledFrom number kept lost) (RolledBackBy number) (λ f k. (k.0, k.1, k.2, k.3, (k.6, k.7))) held))
    d.there
    (t ∙ ap (λ (m : ℕ). says m lost) kept_is ∙ ap (λ (g : ℕ). says (length d.becomes.now.sequence) g) lost_is)
  where
    r : WasRead (StaysAndLost number kept lost) p
    r = was_read (StaysAndLost number kept lost) v s p h (read.0, (read.1, read.2)) (if_some v.content (RolledFrom number kept lost) (HeldSo (StaysAndLost number kept lost)) (λ f k. (k.0, k.1, k.2, k.3, (k.4, k.5))) held)

    c : Contents
    c = rolled (stay_of number r.read) p.left.broken r.read

    stands : p.told ≡ true → StandsFor w c
    stands sure =
        let here = some_both v.content _ _ (h.disk.told sure) told in
        let site = reads_site here.0 p.now p.left (h.held.made sure).now.made here.1 in
        subst (λ (x : Contents). StandsFor w (rolled (stay_of number x) p.left.broken x)) (sym (r.as_before sure)) (here.2 p.now p.left site.0 site.1 (each_stands v p h.disk sure))

    of : p.told ≡ true → IsOf s.name c
    of sure = of_rolls (stay_of number r.read) p.left.broken s.name r.read c (inr (inr (inr ((λ _. true), refl)))) (subst (IsOf s.name) (sym (r.as_before sure)) (h.held.made sure).now)

    d : Done w s c p
    d = done_at w s c p down h.site stands of (omega (arith, later, h.disk.faults)) (same ∙ h.disk.simulated)

    says : ℕ → ℕ → List ℕ
    says m g = before ++ line s.name (codes "ROLLEDBACK " ++ decimal m ++ codes " LOST " ++ decimal g)

    kept_is : kept ≡ length d.becomes.now.sequence
    kept_is = r.says.0 ∙ sym (length-take-le (stay_of number r.read) r.read.sequence (omega arith)) ∙ sym (ap (λ (x : Contents). length x.sequence) d.is)

    lost_is : lost ≡ generation d.becomes.now.instance - 1
    lost_is = r.says.1 ∙ sym (drawn_twice r.read.instance (length r.read.sequence) (stay_of number r.read)) ∙ sym (ap (λ (x : Contents). generation x.instance - 1) d.is)
