-- SET JOURNAL at a place.
use Rattle.std.proofs.Common.{◌≡◌, ℕ, ◌≤◌, Bool, true, false, List, [], ◌∷◌, ◌++◌, length, map, take, None, Some, refl, sym, ◌∙◌, ap, subst, arith, inl, inr, if◌then◌else◌}
use Rattle.std.specs.Prelude.{Option, codes, IfSome, IsSome, IsSomeAnd}
use Rattle.std.specs.Fmt.{decimal}
use Rattle.std.specs.List.{flat_map}
use Rattle.std.proofs.lemmas.Bool.{false≢true}
use Rattle.disk_defs.specs.Disk.{Files, View, Image, IsLawful, AtEachMoment, Rose}
use Rattle.global_defs.specs.Entry.{Sequence}
use Rattle.journal_defs.specs.Numbers.{INSTANCE}
use Rattle.journal_defs.specs.Instance as records
use Rattle.journal_defs.specs.Instance.{InstanceRecord, regions, site_name}
use Rattle.journal_defs.specs.Sequence.{Records}
use Rattle.journal_defs.specs.Stands.{IsInstance}
use Rattle.journal_laws.proofs.Readings.{records_one}
use Rattle.command_defs.specs.Commands.{Name}
use Rattle.command_defs.specs.Parts.{mode_word}
use Rattle.site_defs.specs.Lists.{Among, first_where}
use Rattle.site_defs.specs.Contents.{Contents, Leftover, Standing, is_made, same_name}
use Rattle.site_defs.specs.Limits.{region_number}
use Rattle.site_defs.specs.Opening.{with_mode, MaySetMode, MaySetModeLeft}
use Rattle.site_defs.specs.Stands.{IsSite, HasLeft, Stands, Reads}
use Rattle.site_defs.specs.Behind.{IsStanding}
use Rattle.site_making.specs.declared.finding.FoundSite.{FoundSite}
use Rattle.site_store.specs.declared.layout.Layout.{Layout}
use Rattle.site_store.specs.Opening.{region_value}
use Rattle.site_store.specs.Needing.{NoneNeeds}
use Rattle.site_store.specs.Finding.{HasLayout}
use Rattle.site_making.specs.Finding.{IsFoundIn}
use Rattle.mupip_rollback.specs.Setting.{with_mode_left, MayHaveMode, MayHaveModeLeft, MayBeSet, MayBeSetWith, IsSetIn, StillNoneNeeds}
use Rattle.world_defs.specs.World as world
use Rattle.world_defs.specs.World.{Place, has_failed_on, IfShown, StandAfter}
use Rattle.world_defs.specs.Answers.{NoRegion, Refusal, line}
use Rattle.world_defs.specs.Shown.{HasNoLayout, IsOfAnother, BySequence}
use Rattle.world_defs.specs.Without.{NoneIsWithout, IsWithoutNeed}
use Rattle.world_defs.specs.Row.{refused_with, in_state, why_not_down}
use Rattle.world_defs.specs.Changes.{in_new_state, After}
use Rattle.world_defs.specs.Step.{LeftByRow}
use Rattle.world_defs.specs.Ties.{Matches}
use Rattle.world_defs.specs.rows.Map.{no_region_at, IsNotThere}
use Rattle.world_defs.specs.rows.SetJournal.{unset_by, unset, SetBy, SetRefusedBy, GainsMode, GainsModeLeft, set_journal}
use Rattle.site_runner.specs.Sites.{state_value, site_value, HoldsState, IsOf, IsMade, State, Down, Failed, Site}
use Rattle.site_runner.specs.Executes.{Comes}
use Rattle.site_runner.specs.Mapping.{IsSeenAt}
use Rattle.site_runner.specs.Refusing.{IsDownAt}
use Rattle.site_runner.specs.Setting.{SetsAt, IsCutSet}
use Rattle.site_runner.specs.Steps.{IsAt, ExecutesAt, IsCutAt}
use Rattle.site_runner.proofs.Amongs.{among_flat, flat_among}
use Rattle.site_runner.proofs.Ats.{comes_done, comes_refused, comes_may_refuse, comes_fault, comes_damaged, refused_late, none_refused, is_true_or_false, some_both, told_is, is_site, reads_site, at_moment, as_told, by_shown, stands_by, stand_by, standing_of, ImagesStand, Leftovers}
use Rattle.site_runner.proofs.Begun.{of_more}
use Rattle.site_runner.proofs.Found.{FoundIn, layout_at, number_found}
use Rattle.site_runner.proofs.Leaving.{Ends, EndsSo, ImagesAfter, MayHave, old_ends, old_ends_so, fails_more, left_more, left_cut, left_failed, down_at, still_down, early_none, nothing_had}
use Rattle.site_runner.proofs.Mapped.{Looked, AreAlike, seen_at, unknown_seen, seen_counted, shown_none}
use Rattle.site_runner.proofs.Seen.{counted, kept_counted}
use Rattle.site_runner.proofs.Started.{stand_one}
use Rattle.site_making.proofs.Mapped.{plain as of_records}
use Rattle.gvn_globals.proofs.Basics.{false_of as not_true}
use Rattle.site_store.proofs.Unwritten.{some_and_read as some_and, some_read as if_some}
use Rattle.site_runner.proofs.Looked.{some_and_of}

early_down : (s : Site) (p : Place) → s.state ≡ Down → p.site ≡ Some (site_value s) → refused_with s.name (in_state why_not_down p.site) ≡ None
early_down s p down site = ap (refused_with s.name) (early_none s p down site)

-- what SET JOURNAL answers from a place
abbrev Answers : Name → Bool → View → Site → Place → Site → List ℕ → List ℕ → Bool → Type 0
Answers region mode w s p new before now done = Comes (set_journal region mode s.name p) (IsAt w new) before now done

-- What setting a mode may leave.

-- with the mode of the region of that number, where there is one
abbrev gained_by : Option ℕ → Bool → Contents → List Contents
gained_by None mode c = []
gained_by (Some number) mode c = with_mode number mode c ∷ []

abbrev gains : Name → Bool → Contents → List Contents
gains region mode c = gained_by (region_number region c) mode c

gained_is : (o : Option ℕ) (mode : Bool) (c d : Contents) → Among (gained_by o mode c) d → (number : ℕ) × (o ≡ Some number) × (d ≡ with_mode number mode c)
gained_is None mode c d a = absurd a
gained_is (Some number) mode c d (inl e) = (number, refl, e)
gained_is (Some number) mode c d (inr none) = absurd none

among_gained : (o : Option ℕ) (mode : Bool) (c : Contents) (number : ℕ) → o ≡ Some number → Among (gained_by o mode c) (with_mode number mode c)
among_gained None mode c number e = absurd (cc e)
among_gained (Some n) mode c number e = let same : n ≡ number = cc e in inl (ap (λ (k : ℕ). with_mode k mode c) (sym same))

of_mode : (name : Name) (number : ℕ) (mode : Bool) (c : Contents) → IsOf name c → IsOf name (with_mode number mode c)
of_mode name number mode c h = of_more name c (with_mode number mode c) (records.Mode number mode ∷ []) refl h

ends : (region : Name) (mode : Bool) → Ends (MaySetMode region mode)
ends region mode = record { all = λ c. c ∷ gains region mode c; are = are; covers = λ c o m. (o, covers c o m, inl refl); of = of }
  where
    are : (c o : Contents) → Among (c ∷ gains region mode c) o → MaySetMode region mode c o
    are c o (inl e) = inl e
    are c o (inr a) = inr (gained_is (region_number region c) mode c o a)

    covers : (c o : Contents) → MaySetMode region mode c o → Among (c ∷ gains region mode c) o
    covers c o (inl e) = inl e
    covers c o (inr m) = inr (subst (Among (gains region mode c)) (sym m.2) (among_gained (region_number region c) mode c m.0 m.1))

    of : (name : Name) (c o : Contents) → MaySetMode region mode c o → IsOf name c → IsOf name o
    of name c o (inl e) h = subst (IsOf name) (sym e) h
    of name c o (inr m) h = subst (IsOf name) (sym m.2) (of_mode name m.0 mode c h)

-- and of standings, where what lies behind stays

abbrev gained_so : Option ℕ → Bool → Standing → List Standing
gained_so None mode s = []
gained_so (Some number) mode s = with_mode_left number mode s ∷ []

abbrev gains_so : Name → Bool → Standing → List Standing
gains_so region mode s = gained_so (region_number region s.contents) mode s

so_is : (o : Option ℕ) (mode : Bool) (s d : Standing) → Among (gained_so o mode s) d → (number : ℕ) × (o ≡ Some number) × (d ≡ with_mode_left number mode s)
so_is None mode s d a = absurd a
so_is (Some number) mode s d (inl e) = (number, refl, e)
so_is (Some number) mode s d (inr none) = absurd none

among_so : (o : Option ℕ) (mode : Bool) (s : Standing) (number : ℕ) → o ≡ Some number → Among (gained_so o mode s) (with_mode_left number mode s)
among_so None mode s number e = absurd (cc e)
among_so (Some n) mode s number e = let same : n ≡ number = cc e in inl (ap (λ (k : ℕ). with_mode_left k mode s) (sym same))

ends_so : (region : Name) (mode : Bool) → EndsSo (MaySetModeLeft region mode)
ends_so region mode = record { all = λ s. s ∷ gains_so region mode s; are = are; covers = λ s o m. (o, covers s o m, record { contents = inl refl; broken = refl }) }
  where
    are : (s o : Standing) → Among (s ∷ gains_so region mode s) o → MaySetModeLeft region mode s o
    are s o (inl e) = inl e
    are s o (inr a) = inr (so_is (region_number region s.contents) mode s o a)

    covers : (s o : Standing) → MaySetModeLeft region mode s o → Among (s ∷ gains_so region mode s) o
    covers s o (inl e) = inl e
    covers s o (inr m) = inr (subst (Among (gains_so region mode s)) (sym m.2) (among_so (region_number region s.contents) mode s m.0 m.1))

-- What a look at the site's disk finds.

-- bytes outside the formats, which no known files have
damaged : (region : Name) (mode : Bool) (w : View) (s : Site) (file offset : ℕ) (before now : List ℕ) → now ≡ before ++ line s.name (codes "NOTAFILE " ++ decimal file ++ 32 ∷ decimal offset)
    → (p : Place) → p.told ≡ false → IfShown p (IsNotThere s.name file offset) → IsSeenAt w s p → Answers region mode w s p s before now false
damaged region mode w s file offset before now t p unsure by h =
    comes_damaged file offset (counted p w.faults) (early_down s p h.down h.site) (record { unknown = unsure; kept = kept_counted p w.faults h.faults }) by (seen_counted w s p h) t

-- the look found bytes that stand for nothing, or no site
pub look_damaged : (region : Name) (mode : Bool) (v w : View) (s : Site) (file offset : ℕ) (before now : List ℕ) → Looked v w → s.state ≡ Down → now ≡ before ++ line s.name (codes "NOTAFILE " ++ decimal file ++ 32 ∷ decimal offset)
    → IfSome v.content (λ files. (c : Contents) → IsSite files c → ⊥) → IfSome v.content (HasNoLayout file offset) → ExecutesAt (set_journal region mode s.name) v s w s before now false
look_damaged region mode v w s file offset before now k down t outside bytes p h =
    let unsure : p.told ≡ false = not_true p.told (λ sure.
    let here = some_both v.content _ _ (h.disk.told sure) outside in
    here.2 p.now (reads_site here.0 p.now p.left (h.held.made sure).now.made here.1).0) in
    let after : IsDownAt w s p = still_down v w s p k.lawful k.content k.untouched k.simulated k.later (down_at v s p down h) in
    damaged region mode w s file offset before now t p unsure (by_shown p.shown v.content (IsNotThere s.name file offset) h.disk.shown (if_some v.content (HasNoLayout file offset) (IsNotThere s.name file offset) (λ f out. inl out) bytes))
    (unknown_seen w s p down h.site unsure after.shown after.faults after.simulated)

-- another site was found, which no known files tell
pub seen_other : (region : Name) (mode : Bool) (w : View) (s : Site) (file offset : ℕ) (before now : List ℕ) → now ≡ before ++ line s.name (codes "NOTAFILE " ++ decimal file ++ 32 ∷ decimal offset)
    → IfSome w.content (λ files. (c : Contents) → IsSite files c → IsOf s.name c → ⊥) → IfSome w.content (IsOfAnother s.name file offset) → SetsAt region mode w s w s before now false
seen_other region mode w s file offset before now t other bytes p h =
    damaged region mode w s file offset before now t p (not_true p.told (λ sure.
    let here = some_both w.content _ _ (h.reads sure) other in
    here.2 p.now (reads_site here.0 p.now p.left (h.made sure).now.made here.1).0 (h.made sure).now))
    (by_shown p.shown w.content (IsNotThere s.name file offset) h.shown (if_some w.content (IsOfAnother s.name file offset) (IsNotThere s.name file offset) (λ f other. inr other) bytes)) h

-- nothing was written

down_fault : (leftovers : Leftovers) (region : Name) (mode : Bool) (w : View) (s : Site) (p : Place) (k : ℕ) (before now : List ℕ) → IsLawful w → IsDownAt w s p → k ≡ w.faults → Rose p.faults w.faults → now ≡ before ++ line s.name (codes "DISKFAULT " ++ decimal k)
    → Answers region mode w s p (record { name = s.name; state = Failed k }) before now false
down_fault leftovers region mode w s p k before now law h count rose t =
    let l = left_failed leftovers (λ c o. o ≡ c) (λ x o. o ≡ x) old_ends old_ends_so w s p k law h.site h.made (nothing_had (λ c o. o ≡ c) (λ x o. o ≡ x) w s p (λ c. refl) (λ x. refl) h) count rose in
    comes_fault k l.becomes (early_down s p h.down h.site)
    (fails_more k (in_new_state (world.Failed k) p.site) (λ c o. o ≡ c) (MaySetMode region mode) (λ x o. o ≡ x) (MaySetModeLeft region mode) p l.becomes (λ c o e. inl e) (λ x o e. inl e) l.fails) l.there t

pub look_faulted : (leftovers : Leftovers) (region : Name) (mode : Bool) (v w : View) (s : Site) (k : ℕ) (before now : List ℕ) → Looked v w → s.state ≡ Down → k ≡ w.faults → Rose v.faults w.faults
    → now ≡ before ++ line s.name (codes "DISKFAULT " ++ decimal k) → ExecutesAt (set_journal region mode s.name) v s w (record { name = s.name; state = Failed k }) before now false
look_faulted leftovers region mode v w s k before now l down count rose t p h =
    down_fault leftovers region mode w s p k before now l.lawful (still_down v w s p l.lawful l.content l.untouched l.simulated l.later (down_at v s p down h)) count (subst (λ (x : ℕ). Rose x w.faults) h.disk.faults rose) t

down_cut : (leftovers : Leftovers) (region : Name) (mode : Bool) (w : View) (s : Site) (p : Place) → IsLawful w → IsDownAt w s p → (q : Place) × LeftByRow (set_journal region mode s.name p) p q × Matches w q
down_cut leftovers region mode w s p law h =
    let l = left_cut leftovers (λ c o. o ≡ c) (λ x o. o ≡ x) old_ends old_ends_so w s.name p law (nothing_had (λ c o. o ≡ c) (λ x o. o ≡ x) w s p (λ c. refl) (λ x. refl) h) h.faults in
    (l.0, left_more (λ c o. o ≡ c) (MaySetMode region mode) (λ x o. o ≡ x) (MaySetModeLeft region mode) p l.0 (λ c o e. inl e) (λ x o e. inl e) l.1, l.2)

pub look_cut : (leftovers : Leftovers) (region : Name) (mode : Bool) (v w : View) (s : Site) → s.state ≡ Down → Looked v w → IsCutAt (set_journal region mode s.name) v s w
look_cut leftovers region mode v w s down l p h = down_cut leftovers region mode w s p l.lawful (still_down v w s p l.lawful l.content l.untouched l.simulated l.later (down_at v s p down h))

-- a place that was looked at is one of a site that is down
seen_down : (w : View) (s : Site) (p : Place) → IsSeenAt w s p → IsDownAt w s p
seen_down w s p h = record { site = h.site; down = h.down; made = h.made; reads = h.reads; images = h.images; standings = h.standings; shown = h.shown; known = h.known; faults = h.faults; simulated = h.simulated }

pub seen_cut : (leftovers : Leftovers) (region : Name) (mode : Bool) (w : View) (s : Site) → IsLawful w → IsCutSet region mode w s w
seen_cut leftovers region mode w s law p h = down_cut leftovers region mode w s p law (seen_down w s p h)

-- Behind a look.

pub sets_so : (region : Name) (mode : Bool) (v w u : View) (s new : Site) (before now : List ℕ) (done : Bool) → Looked v w → s.state ≡ Down → AreAlike v w → SetsAt region mode w s u new before now done → ExecutesAt (set_journal region mode s.name) v s u new before now done
sets_so region mode v w u s new before now done k down alike m p h = m p (seen_at v w s p k down alike h)

pub cut_so : (region : Name) (mode : Bool) (v w u : View) (s : Site) → Looked v w → s.state ≡ Down → AreAlike v w → IsCutSet region mode w s u → IsCutAt (set_journal region mode s.name) v s u
cut_so region mode v w u s k down alike m p h = m p (seen_at v w s p k down alike h)

-- There is no region of that name.

unset_told : (region : Name) (p : Place) (n : Option ℕ) → p.told ≡ true → region_number region p.now ≡ n → unset region p ≡ no_region_at region n
unset_told region p n sure e = ap (λ (b : Bool). if b then unset_by region p.now.instance else None) sure ∙ ap (no_region_at region) e

unset_unknown : (region : Name) (p : Place) → p.told ≡ false → unset region p ≡ None
unset_unknown region p unsure = ap (λ (b : Bool). if b then unset_by region p.now.instance else None) unsure

pub unset_found : (region : Name) (found : FoundSite) (n : Option ℕ) → HasLayout found.log.records found.layout
    → n ≡ first_where (λ r. same_name r.name region) (map region_value (take found.layout.directory.regions found.layout.regions.items)) → unset_by region found.log.records ≡ no_region_at region n
unset_found region found n layout e = ap (no_region_at region) (number_found region (of_records found.log.records) found.layout n layout e)

pub found_no_region : (region : Name) (mode : Bool) (w : View) (s : Site) (found : FoundSite) (before now : List ℕ) → IsFoundIn w found → site_name found.log.records ≡ s.name → FoundIn w.content (Some found.layout)
    → None ≡ first_where (λ r. same_name r.name region) (map region_value (take found.layout.directory.regions found.layout.regions.items)) → now ≡ before ++ line s.name (codes "NOREGION " ++ region) → SetsAt region mode w s w s before now false
found_no_region region mode w s found before now told named f e t p h = elim (is_true_or_false p.told) [
  | inl sure ↦
      let why : unset region p ≡ Some (NoRegion region) = unset_told region p None sure (number_found region p.now found.layout None (layout_at w s p found.layout f h sure) e) in
      comes_refused no (counted p w.faults) (refused_late s.name (in_state why_not_down p.site) (unset region p) (NoRegion region) (early_none s p h.down h.site) why) (kept_counted p w.faults h.faults) by (seen_counted w s p h) t
  | inr unsure ↦ comes_may_refuse no (counted p w.faults) (early_down s p h.down h.site) (refl, record { unknown = unsure; kept = kept_counted p w.faults h.faults }) by (seen_counted w s p h) t
]
  where
    no : Refusal
    no = record { site = s.name; cause = NoRegion region }

    by : IfShown p (SetRefusedBy region s.name (NoRegion region))
    by = by_shown p.shown w.content (SetRefusedBy region s.name (NoRegion region)) h.shown
        (if_some w.content (λ files. IsInstance (files INSTANCE) found.log.records) (SetRefusedBy region s.name (NoRegion region)) (λ g is. (found.log.records, is, (named, unset_found region found None told.layout e))) told.told)

-- the region is there, whatever site stands there
pub there_in : (o : Option Files) (region : Name) (number : ℕ) (found : Layout) → FoundIn o (Some found) → Some number ≡ first_where (λ r. same_name r.name region) (map region_value (take found.directory.regions found.regions.items))
    → IfSome o (λ files. (c : Contents) → IsSite files c → region_number region c ≡ Some number)
there_in None region number found h e = tt
there_in (Some f) region number found h e = λ c site. number_found region c found (Some number) (h c (inr site)).1 e

-- Setting the mode.

-- what the call says of each moment
pub record Moments (region : Name) (number : ℕ) (mode : Bool) (v w : View) : Type 1 where
  pub lawful : IsLawful w
  pub there : IfSome v.content (λ files. (c : Contents) → IsSite files c → region_number region c ≡ Some number)
  pub any_moment : IfSome v.content (λ files. (c : Contents) → IsSite files c → AtEachMoment v w (MayBeSet v number mode))
  pub left : IfSome v.content (λ files. (c : Contents) → IsSite files c → AtEachMoment v w (MayBeSetWith v number mode))
  pub still_told : IsSome v.content → IsSome w.content
  pub simulated : w.simulated ≡ v.simulated
  pub later : v.faults ≤ w.faults

there_at : (region : Name) (number : ℕ) (mode : Bool) (v w : View) (s : Site) (p : Place) → Moments region number mode v w → IsSeenAt v s p → p.told ≡ true → region_number region p.now ≡ Some number
there_at region number mode v w s p m h sure =
    let here = some_both v.content _ _ (h.reads sure) m.there in
    here.2 p.now (reads_site here.0 p.now p.left (h.made sure).now.made here.1).0

-- of each image it's the same region
alike_at : (region : Name) (number : ℕ) (mode : Bool) (v w : View) (s : Site) (p : Place) (f : Files) (o : Contents) → Moments region number mode v w → IsSeenAt v s p → p.told ≡ true → Image v f → Stands f o → region_number region o ≡ Some number
alike_at region number mode v w s p f o m h sure i stands = ap (λ (rs : List InstanceRecord). first_where (λ r. same_name r.name region) (regions rs)) (h.alike sure f o i stands) ∙ there_at region number mode v w s p m h sure

-- the site that an image stands for
record ImageSite (p : Place) (f : Files) : Type 0 where
  contents : Contents
  among : Among p.outcomes contents
  site : IsSite f contents

image_site : (v : View) (s : Site) (p : Place) (f : Files) → IsSeenAt v s p → p.told ≡ true → Image v f → ImageSite p f
image_site v s p f h sure i = let o = h.images sure f i in record { contents = o.0; among = o.1; site = is_site f o.0 ((h.made sure).outcomes o.0 o.1).made o.2 }

may_have : (region : Name) (number : ℕ) (mode : Bool) (v w : View) (s : Site) (p : Place) → Moments region number mode v w → IsSeenAt v s p → MayHave (MaySetMode region mode) (MaySetModeLeft region mode) w p
may_have region number mode v w s p m h = record {
  still_told = λ sure. m.still_told (told_is v.content _ (h.reads sure));
  images = λ sure f i.
      let here = some_both v.content _ _ (h.reads sure) m.any_moment in
      let each = here.2 p.now (reads_site here.0 p.now p.left (h.made sure).now.made here.1).0 in
      let from = at_moment v w (MayBeSet v number mode) f m.lawful each i in
      let was = image_site v s p from.0 h sure from.1 in
      let now = from.2 was.contents was.site in
      (now.0, (was.contents, was.among, step was.contents now.0 (alike_at region number mode v w s p from.0 was.contents m h sure from.1 (inr was.site)) now.1), inr now.2);
  standings = λ sure. among sure p.standings (h.standings sure);
  simulated = m.simulated ∙ h.simulated;
}
  where
    step : (c o : Contents) → region_number region c ≡ Some number → MayHaveMode number mode c o → MaySetMode region mode c o
    step c o named (inl e) = inl e
    step c o named (inr e) = inr (number, named, e)

    step_so : (x o : Standing) → region_number region x.contents ≡ Some number → MayHaveModeLeft number mode x o → MaySetModeLeft region mode x o
    step_so x o named (inl e) = inl e
    step_so x o named (inr e) = inr (number, named, e)

    among : p.told ≡ true → (x : Option (List Standing)) → ImagesStand v x → ImagesAfter (MaySetModeLeft region mode) w x
    among sure None k = tt
    among sure (Some os) k = λ f i.
        let here = some_both v.content _ _ (h.reads sure) m.left in
        let each = here.2 p.now (reads_site here.0 p.now p.left (h.made sure).now.made here.1).0 in
        let from = at_moment v w (MayBeSetWith v number mode) f m.lawful each i in
        let site = image_site v s p from.0 h sure from.1 in
        let was = k from.0 from.1 in
        let stands : IsStanding from.0 was.0 = standing_of from.0 site.contents was.0 site.site was.2 in
        let now = from.2 was.0 stands in
        (was.0, now.0, was.1, step_so was.0 now.0 (alike_at region number mode v w s p from.0 was.0.contents m h sure from.1 (inr stands.site)) now.1, inr now.2)

pub there_faulted : (leftovers : Leftovers) (region : Name) (number : ℕ) (mode : Bool) (v w : View) (s : Site) (k : ℕ) (before now : List ℕ) → Moments region number mode v w → k ≡ w.faults → Rose v.faults w.faults
    → now ≡ before ++ line s.name (codes "DISKFAULT " ++ decimal k) → SetsAt region mode v s w (record { name = s.name; state = Failed k }) before now false
there_faulted leftovers region number mode v w s k before now m count rose t p h =
    let l = left_failed leftovers (MaySetMode region mode) (MaySetModeLeft region mode) (ends region mode) (ends_so region mode) w s p k m.lawful h.site h.made (may_have region number mode v w s p m h) count (omega (arith, rose, h.faults)) in
    comes_fault k l.becomes (early_down s p h.down h.site) l.fails l.there t

pub there_cut : (leftovers : Leftovers) (region : Name) (number : ℕ) (mode : Bool) (v w : View) (s : Site) → Moments region number mode v w → IsCutSet region mode v s w
there_cut leftovers region number mode v w s m p h =
    left_cut leftovers (MaySetMode region mode) (MaySetModeLeft region mode) (ends region mode) (ends_so region mode) w s.name p m.lawful (may_have region number mode v w s p m h) (omega (arith, m.later, h.faults))

pub there_damaged : (region : Name) (number : ℕ) (mode : Bool) (v w : View) (s : Site) (file offset : ℕ) (before now : List ℕ) → Moments region number mode v w → IfSome v.content (λ _. ⊥)
    → now ≡ before ++ line s.name (codes "NOTAFILE " ++ decimal file ++ 32 ∷ decimal offset) → SetsAt region mode v s w s before now false
there_damaged region number mode v w s file offset before now m untold t p h =
    let unsure : p.told ≡ false = not_true p.told (λ sure. (some_both v.content _ _ (h.reads sure) untold).2) in
    damaged region mode w s file offset before now t p unsure (by_shown p.shown v.content (IsNotThere s.name file offset) h.shown (if_some v.content (λ _. ⊥) (IsNotThere s.name file offset) (λ f none. absurd none) untold))
    (unknown_seen w s p h.down h.site unsure (shown_none p.shown v.content w.content untold h.shown) (omega (arith, m.later, h.faults)) (m.simulated ∙ h.simulated))

-- The mode was set, in each image.

abbrev gains_standing : Name → Bool → Option (List Standing) → Option (List Standing)
gains_standing region mode None = None
gains_standing region mode (Some os) = Some (flat_map (gains_so region mode) os)

after_gains : (region : Name) (mode : Bool) (x : Option (List Standing)) → StandAfter (GainsModeLeft region mode) x (gains_standing region mode x)
after_gains region mode None = tt
after_gains region mode (Some os) = λ o a.
    let s = flat_among (gains_so region mode) os o a in
    let k = so_is (region_number region s.0.contents) mode s.0 o s.2 in
    (s.0, s.1, ((k.0, k.1, ap (λ (x : Standing). x.contents) k.2), ap (λ (x : Standing). x.broken) k.2))

abbrev set_place : Name → ℕ → Bool → View → Place → Contents → Place
set_place region number mode w p read = record {
  site = in_new_state world.Down p.site;
  told = p.told;
  now = with_mode number mode read;
  left = p.left;
  outcomes = flat_map (gains region mode) p.outcomes;
  standings = gains_standing region mode p.standings;
  shown = w.content;
  faults = w.faults;
  simulated = p.simulated;
}

gains_outcome : (region : Name) (mode : Bool) (os : List Contents) (o : Contents) → Among (flat_map (gains region mode) os) o → After (GainsMode region mode) os o
gains_outcome region mode os o a = let c = flat_among (gains region mode) os o a in (c.0, c.1, gained_is (region_number region c.0) mode c.0 o c.2)

done_at : (region : Name) (number : ℕ) (mode : Bool) (w : View) (s : Site) (before now : List ℕ) (p : Place) (read : Contents) → s.state ≡ Down → p.site ≡ Some (site_value s) → (p.told ≡ true → IsMade s.name p) → (p.told ≡ true → read ≡ p.now)
    → region_number region read ≡ Some number → unset region p ≡ None → (p.told ≡ true → IsSomeAnd w.content (λ files. Reads files (with_mode number mode read) p.left))
    → (p.told ≡ true → (f : Files) → Image w f → (o : Contents) × Among (flat_map (gains region mode) p.outcomes) o × Stands f o) → (p.told ≡ true → ImagesStand w (gains_standing region mode p.standings))
    → (p.told ≡ true → IsWithoutNeed p → IfSome w.content (BySequence (λ u seq. NoneIsWithout u (length seq))))
    → IfShown p (SetBy region s.name) → p.faults ≤ w.faults → w.simulated ≡ p.simulated → now ≡ before ++ line s.name (codes "JOURNAL " ++ region ++ 32 ∷ mode_word mode) → Answers region mode w s p s before now true
done_at region number mode w s before now p read down site made as_before named free reads images standings needs by later same t =
    comes_done q
    (none_refused s.name (in_state why_not_down p.site) (unset region p) (early_none s p down site) free)
    (record {
      read = read;
      as_before = as_before;
      number = number;
      named = named;
      unneeding = λ none sure. needs sure none;
      becomes = record { site = refl; told = refl; now = refl; left = refl; outcomes = gains_outcome region mode p.outcomes; standings = after_gains region mode p.standings; faults = later; simulated = refl };
    })
    by
    (record {
      disk = record {
        told = reads;
        images = λ sure f i. let o = images sure f i in (o.0, o.1, stands_by (has_failed_on q.site) f o.0 o.2);
        standings = λ sure. stand_by (has_failed_on q.site) w q.standings (standings sure);
        shown = as_told w.content;
        known = λ _. refl;
        faults = refl;
        simulated = same;
      };
      site = ap (in_new_state world.Down) site ∙ ap (λ (x : world.State). Some (record { name = s.name; state = x })) (ap state_value (sym down));
      held = record {
        made = λ sure. record {
          now = of_mode s.name number mode read (subst (IsOf s.name) (sym (as_before sure)) (made sure).now);
          outcomes = λ o a. let k = gains_outcome region mode p.outcomes o a in subst (IsOf s.name) (sym k.2.2) (of_mode s.name k.2.0 mode k.0 ((made sure).outcomes k.0 k.1));
        };
        state = subst (λ (x : State). HoldsState w x q) (sym down) tt;
      };
    })
    t
  where
    q : Place
    q = set_place region number mode w p read

-- an image's site has the mode, with what was broken in it
set_image : (leftovers : Leftovers) (number : ℕ) (mode : Bool) (was f : Files) (c : Contents) → IsSite was c → ((s : Standing) → IsStanding was s → IsStanding f (with_mode_left number mode s)) → IsSite f (with_mode number mode c)
set_image leftovers number mode was f c site set =
    let left = leftovers.there was c site in
    (set (record { contents = c; broken = left.0.broken }) (record { site = site; torn = left.0.torn; left = left.1 })).site

-- where no region needed forward recovery none does
needs_stay : (number : ℕ) (mode : Bool) (o n : Option Files) (c : Contents) (left : Leftover) → is_made c ≡ true → IsSomeAnd o (λ f. Reads f c left)
    → IfSome o (λ files. (c : Contents) (left : Leftover) → IsSite files c → HasLeft files c left → IfSome n (λ now. IsSite now (with_mode number mode c) × HasLeft now (with_mode number mode c) left × StillNoneNeeds files now))
    → IfSome o (BySequence (λ u seq. NoneIsWithout u (length seq))) → IfSome n (BySequence (λ u seq. NoneIsWithout u (length seq)))
needs_stay number mode None n c left made reads set none = absurd reads
needs_stay number mode (Some f) n c left made reads set none =
    if_some n (λ now. IsSite now (with_mode number mode c) × HasLeft now (with_mode number mode c) left × StillNoneNeeds f now) (BySequence (λ u seq. NoneIsWithout u (length seq)))
    (λ now k. (k.0.records, c.sequence, k.0.image.held, k.0.image.sequence, k.2 (length c.sequence) all k.0.records k.0.image.held)) (set c left site.0 site.1)
  where
    site : IsSite f c × HasLeft f c left
    site = reads_site f c left made reads

    all : NoneNeeds (length c.sequence) f
    all u held =
        let one : none.0 ≡ u = records_one f none.0 u none.2 held in
        let same = stand_one f c none.0 none.1 site.0 none.2 none.3 in
        subst (λ (x : Records). NoneIsWithout x (length c.sequence)) one (subst (λ (seq : Sequence). NoneIsWithout none.0 (length seq)) (sym same.1) none.4)

done_told : (leftovers : Leftovers) (region : Name) (number : ℕ) (mode : Bool) (v w : View) (s : Site) (before now : List ℕ) (p : Place) → Moments region number mode v w → IsSeenAt v s p → p.told ≡ true
    → IfSome v.content (λ files. (c : Contents) (left : Leftover) → IsSite files c → HasLeft files c left → IfSome w.content (λ now. IsSite now (with_mode number mode c) × HasLeft now (with_mode number mode c) left × StillNoneNeeds files now))
    → IfSome v.content (λ files. (c : Contents) → IsSite files c → (f : Files) → Image w f → IsSetIn v number mode f)
    → IfSome v.content (SetBy region s.name) → now ≡ before ++ line s.name (codes "JOURNAL " ++ region ++ 32 ∷ mode_word mode) → Answers region mode w s p s before now true
done_told leftovers region number mode v w s before now p m h sure reads images by t =
    done_at region number mode w s before now p p.now h.down h.site h.made (λ _. refl) named (unset_told region p (Some number) sure named) (λ _. told) (λ _. outcome) (λ _. standing p.standings (h.standings sure)) (λ _. needs)
    (by_shown p.shown v.content (SetBy region s.name) h.shown by) (omega (arith, m.later, h.faults)) (m.simulated ∙ h.simulated) t
  where
    named : region_number region p.now ≡ Some number
    named = there_at region number mode v w s p m h sure

    told : IsSomeAnd w.content (λ files. Reads files (with_mode number mode p.now) p.left)
    told =
        let here = some_both v.content _ _ (h.reads sure) reads in
        let site = reads_site here.0 p.now p.left (h.made sure).now.made here.1 in
        some_and w.content (λ f. IsSite f (with_mode number mode p.now) × HasLeft f (with_mode number mode p.now) p.left × StillNoneNeeds here.0 f) (λ f. Reads f (with_mode number mode p.now) p.left) (λ f k. inr (k.0, k.1))
        (some_and_of w.content _ (m.still_told (told_is v.content _ (h.reads sure))) (here.2 p.now p.left site.0 site.1))

    needs : IsWithoutNeed p → IfSome w.content (BySequence (λ u seq. NoneIsWithout u (length seq)))
    needs none = needs_stay number mode v.content w.content p.now p.left (h.made sure).now.made (h.reads sure) reads (subst (λ (o : Option Files). IfSome o (BySequence (λ u seq. NoneIsWithout u (length seq)))) (h.known sure) (none sure))

    from : (f : Files) → Image w f → IsSetIn v number mode f
    from f i =
        let here = some_both v.content _ _ (h.reads sure) images in
        here.2 p.now (reads_site here.0 p.now p.left (h.made sure).now.made here.1).0 f i

    outcome : (f : Files) → Image w f → (o : Contents) × Among (flat_map (gains region mode) p.outcomes) o × Stands f o
    outcome f i =
        let set = from f i in
        let was = image_site v s p set.0 h sure set.1 in
        let alike : region_number region was.contents ≡ Some number = alike_at region number mode v w s p set.0 was.contents m h sure set.1 (inr was.site) in (
          with_mode number mode was.contents,
          among_flat (gains region mode) p.outcomes was.contents (with_mode number mode was.contents) was.among (among_gained (region_number region was.contents) mode was.contents number alike),
          inr (set_image leftovers number mode set.0 f was.contents was.site set.2),
        )

    standing : (x : Option (List Standing)) → ImagesStand v x → ImagesStand w (gains_standing region mode x)
    standing None k = tt
    standing (Some os) k = λ f i.
        let set = from f i in
        let site = image_site v s p set.0 h sure set.1 in
        let was = k set.0 set.1 in
        let stands : IsStanding set.0 was.0 = standing_of set.0 site.contents was.0 site.site was.2 in
        let alike : region_number region was.0.contents ≡ Some number = alike_at region number mode v w s p set.0 was.0.contents m h sure set.1 (inr stands.site) in
        (with_mode_left number mode was.0, among_flat (gains_so region mode) os was.0 (with_mode_left number mode was.0) was.1 (among_so (region_number region was.0.contents) mode was.0 number alike), inr (set.2 was.0 stands))

done_untold : (region : Name) (number : ℕ) (mode : Bool) (v w : View) (s : Site) (before now : List ℕ) (p : Place) (read : Contents) → Moments region number mode v w → IsSeenAt v s p → p.told ≡ false
    → region_number region read ≡ Some number → IfSome v.content (SetBy region s.name) → now ≡ before ++ line s.name (codes "JOURNAL " ++ region ++ 32 ∷ mode_word mode) → Answers region mode w s p s before now true
done_untold region number mode v w s before now p read m h unsure named by t =
    done_at region number mode w s before now p read h.down h.site h.made (λ sure. absurd (never sure)) named (unset_unknown region p unsure) (λ sure. absurd (never sure)) (λ sure. absurd (never sure)) (λ sure. absurd (never sure)) (λ sure. absurd (never sure))
    (by_shown p.shown v.content (SetBy region s.name) h.shown by) (omega (arith, m.later, h.faults)) (m.simulated ∙ h.simulated) t
  where
    never : p.told ≡ true → ⊥
    never sure = false≢true (sym unsure ∙ sure)

pub there_done : (leftovers : Leftovers) (region : Name) (number : ℕ) (mode : Bool) (v w : View) (s : Site) (before now : List ℕ) → Moments region number mode v w → ((c : Contents) × (region_number region c ≡ Some number))
    → IfSome v.content (λ files. (c : Contents) (left : Leftover) → IsSite files c → HasLeft files c left → IfSome w.content (λ now. IsSite now (with_mode number mode c) × HasLeft now (with_mode number mode c) left × StillNoneNeeds files now))
    → IfSome v.content (λ files. (c : Contents) → IsSite files c → (f : Files) → Image w f → IsSetIn v number mode f)
    → IfSome v.content (SetBy region s.name) → now ≡ before ++ line s.name (codes "JOURNAL " ++ region ++ 32 ∷ mode_word mode) → SetsAt region mode v s w s before now true
there_done leftovers region number mode v w s before now m named reads images by t p h = elim (is_true_or_false p.told) [
  | inl sure ↦ done_told leftovers region number mode v w s before now p m h sure reads images by t
  | inr unsure ↦ done_untold region number mode v w s before now p named.0 m h unsure named.1 by t
]

-- the line, under the names that were given
pub moded : {name n region r now : List ℕ} (before : List ℕ) (mode : Bool) → n ≡ name → r ≡ region → now ≡ before ++ line n (codes "JOURNAL " ++ r ++ 32 ∷ mode_word mode) → now ≡ before ++ line name (codes "JOURNAL " ++ region ++ 32 ∷ mode_word mode)
moded {name} {n} {region} {r} before mode e f t = t ∙ ap (λ (x : List ℕ). before ++ line x (codes "JOURNAL " ++ r ++ 32 ∷ mode_word mode)) e ∙ ap (λ (x : List ℕ). before ++ line name (codes "JOURNAL " ++ x ++ 32 ∷ mode_word mode)) f
