-- MAP at a place.
use Rattle.std.proofs.Common.{◌≡◌, ℕ, ◌≤◌, true, false, List, [], ◌∷◌, ◌++◌, None, Some, refl, sym, ◌∙◌, ap, subst, arith, inl, inr, Bool}
use Rattle.std.specs.Prelude.{Option, codes, IfSome, IsSome, IsSomeAnd}
use Rattle.std.specs.Fmt.{decimal}
use Rattle.std.proofs.lemmas.Bool.{false≢true}
use Rattle.disk_defs.specs.Disk.{Files, View, Image, IsLawful, AtEachMoment, Rose}
use Rattle.journal_defs.specs.Instance.{InstanceRecord, generation, regions}
use Rattle.site_store.specs.Opening.{EachStands}
use Rattle.site_making.specs.Finding.{StandsAsBefore}
use Rattle.site_making.specs.Mapping.{MayHavePattern}
use Rattle.command_defs.specs.Commands.{Name}
use Rattle.site_defs.specs.Lists.{Among, first_where}
use Rattle.world_defs.specs.World as world
use Rattle.world_defs.specs.World.{Place, has_failed_on, IfShown, StandAfter}
use Rattle.site_defs.specs.Contents.{Contents, Leftover, Standing, NO_LEFTOVER, is_made, same_name, bare}
use Rattle.world_defs.specs.Answers.{Cause, Refusal, line, cause_text}
use Rattle.world_defs.specs.Shown.{HasNoLayout, IsOfAnother}
use Rattle.world_defs.specs.Row.{refused_with, in_state, why_not_down}
use Rattle.site_defs.specs.Limits.{region_number}
use Rattle.world_defs.specs.Changes.{in_new_state, After}
use Rattle.site_defs.specs.Opening.{MayMap, with_pattern}
use Rattle.world_defs.specs.Step.{LeftByRow}
use Rattle.world_defs.specs.rows.Map.{MayMapLeft, IsUnmapped, unmapped, RefusedBy, MappedBy, IsNotThere, map_pattern}
use Rattle.world_defs.specs.Ties.{Matches}
use Rattle.site_defs.specs.Stands.{IsSite, HasLeft, Stands, Reads}
use Rattle.site_defs.specs.Behind.{StandsSo}
use Rattle.site_runner.specs.Sites.{state_value, site_value, HoldsState, IsOf, IsMade, State, Down, Failed, Site}
use Rattle.site_runner.specs.Executes.{Comes}
use Rattle.site_runner.specs.Steps.{IsAt, ExecutesAt, IsCutAt}
use Rattle.site_runner.specs.Mapping.{IsSeenAt, IsUnmappedIn, MapsAt, IsCutSeen}
use Rattle.site_runner.proofs.Ats.{comes_done, comes_refused, comes_may_refuse, comes_fault, comes_damaged, refused_late, none_refused, is_true_or_false, some_both, some_of, told_is, reads_stand, reads_site, at_moment, Leftovers, ReadPlace, place_of_images, only}
use Rattle.site_runner.proofs.Ats.{stands_by, stands_so_by, stand_by, up_down, images_of, standings_of, left_new, so_stands, ImagesStand, images_still, as_told, shown_same, by_shown}
use Rattle.site_runner.proofs.Seen.{counted, kept_counted}
use Rattle.site_runner.proofs.Amongs.{among_first, among_second, among_either}
use Rattle.site_runner.proofs.Started.{why_at}
use Rattle.site_runner.proofs.Patterns.{maps, among_maps, maps_among, of_pattern, of_may_map, generation_map, unmapped_unknown, not_refused}
use Rattle.site_runner.proofs.Looked.{some_and_of}
use Rattle.gvn_globals.proofs.Basics.{false_of as not_true}
use Rattle.site_store.proofs.Unwritten.{some_and_read as some_and, some_read as if_some}

-- the tests of a site that is down

early_down : (s : Site) (p : Place) → s.state ≡ Down → p.site ≡ Some (site_value s) → refused_with s.name (in_state why_not_down p.site) ≡ None
early_down s p e h = ap (refused_with s.name) (why_at s Down p e h)

-- What a look at the site's disk finds.

-- what the look keeps
pub record Looked (v w : View) : Type 1 where
  pub lawful : IsLawful w
  pub any_moment : IfSome v.content (λ _. AtEachMoment v w (StandsAsBefore v))
  pub untouched : AtEachMoment v w (Image v)
  pub content : w.content ≡ v.content
  pub simulated : w.simulated ≡ v.simulated
  pub later : v.faults ≤ w.faults

abbrev pub AreAlike : View → View → Type 0
AreAlike v w = IfSome v.content (λ files. (c o : Contents) (f : Files) → Stands files c → Image w f → Stands f o → o.instance ≡ c.instance)

-- each image stands for what one stood for before
look_images : (v w : View) (p : Place) → has_failed_on p.site ≡ false → Looked v w → Matches v p → p.told ≡ true → (f : Files) → Image w f → (o : Contents) × Among p.outcomes o × Stands f o
look_images v w p up k m sure f i =
    let each = some_of v.content (AtEachMoment v w (StandsAsBefore v)) (told_is v.content _ (m.told sure)) k.any_moment in
    let from = at_moment v w (StandsAsBefore v) f k.lawful each i in
    let o = images_of v p up m sure from.0 from.1 in
    (o.0, o.1, from.2 o.0 o.2)

-- and as it stood before
look_standings : (v w : View) (p : Place) → has_failed_on p.site ≡ false → Looked v w → Matches v p → p.told ≡ true → ImagesStand w p.standings
look_standings v w p up k m sure = images_still v w p.standings (λ f i. at_moment v w (Image v) f k.lawful k.untouched i) (standings_of v p up m sure)

pub seen_at : (v w : View) (s : Site) (p : Place) → Looked v w → s.state ≡ Down → AreAlike v w → IsAt v s p → IsSeenAt w s p
seen_at v w s p k down alike h = record {
  site = h.site;
  down = down;
  made = h.held.made;
  reads = λ sure. subst (λ (x : Option Files). IsSomeAnd x (λ files. Reads files p.now p.left)) (sym k.content) (h.disk.told sure);
  images = λ sure f i. look_images v w p (up_down s p down h.site) k h.disk sure f i;
  standings = λ sure. look_standings v w p (up_down s p down h.site) k h.disk sure;
  alike = λ sure f o i stands. let b = some_both v.content _ _ (h.disk.told sure) alike in b.2 p.now o f (reads_stand b.0 p.now p.left b.1) i stands;
  shown = shown_same p.shown v.content w.content k.content h.disk.shown;
  known = λ sure. h.disk.known sure ∙ sym k.content;
  faults = omega (arith, k.later, h.disk.faults);
  simulated = k.simulated ∙ h.disk.simulated;
}

-- a place whose files aren't known
pub unknown_seen : (w : View) (s : Site) (p : Place) → s.state ≡ Down → p.site ≡ Some (site_value s) → p.told ≡ false → IfShown p (λ files. w.content ≡ Some files) → p.faults ≤ w.faults → w.simulated ≡ p.simulated → IsSeenAt w s p
unknown_seen w s p down site unsure shown faults same = record {
  site = site;
  down = down;
  made = λ sure. absurd (false≢true (sym unsure ∙ sure));
  reads = λ sure. absurd (false≢true (sym unsure ∙ sure));
  images = λ sure. absurd (false≢true (sym unsure ∙ sure));
  standings = λ sure. absurd (false≢true (sym unsure ∙ sure));
  alike = λ sure. absurd (false≢true (sym unsure ∙ sure));
  shown = shown;
  known = λ sure. absurd (false≢true (sym unsure ∙ sure));
  faults = faults;
  simulated = same;
}

pub seen_counted : (w : View) (s : Site) (p : Place) → IsSeenAt w s p → IsAt w s (counted p w.faults)
seen_counted w s p h = record {
  disk = record {
    told = h.reads;
    images = λ sure f i. let o = h.images sure f i in (o.0, o.1, stands_by (has_failed_on p.site) f o.0 o.2);
    standings = λ sure. stand_by (has_failed_on p.site) w p.standings (h.standings sure);
    shown = h.shown;
    known = h.known;
    faults = refl;
    simulated = h.simulated;
  };
  site = h.site;
  held = record { made = λ sure. record { now = (h.made sure).now; outcomes = (h.made sure).outcomes }; state = subst (λ (x : State). HoldsState w x (counted p w.faults)) (sym h.down) tt };
}

-- what MAP answers from a place
abbrev pub Answers : Name → List ℕ → View → Site → Place → Site → List ℕ → List ℕ → Bool → Type 0
Answers region text w s p new before now done = Comes (map_pattern region text s.name p) (IsAt w new) before now done

-- a refusal
pub map_refused : (region : Name) (text : List ℕ) (w : View) (s : Site) (cause : Cause) (before now : List ℕ) → IsUnmapped region cause → IfSome w.content (RefusedBy region text s.name cause) → now ≡ before ++ line s.name (cause_text cause)
    → (p : Place) → IsSeenAt w s p → (p.told ≡ true → unmapped region text p ≡ Some cause) → Answers region text w s p s before now false
map_refused region text w s cause before now un bytes t p h why = elim (is_true_or_false p.told) [
  | inl sure ↦ comes_refused no (counted p w.faults) (refused_late s.name (in_state why_not_down p.site) (unmapped region text p) cause (why_at s Down p h.down h.site) (why sure)) (kept_counted p w.faults h.faults) by (seen_counted w s p h) t
  | inr unsure ↦ comes_may_refuse no (counted p w.faults) (early_down s p h.down h.site) (refl, un, record { unknown = unsure; kept = kept_counted p w.faults h.faults }) by (seen_counted w s p h) t
]
  where
    no : Refusal
    no = record { site = s.name; cause = cause }

    by : IfShown p (RefusedBy region text s.name cause)
    by = by_shown p.shown w.content (RefusedBy region text s.name cause) h.shown bytes

-- bytes outside the formats, which no known files have
damaged : (region : Name) (text : List ℕ) (w : View) (s : Site) (file offset : ℕ) (before now : List ℕ) → now ≡ before ++ line s.name (codes "NOTAFILE " ++ decimal file ++ 32 ∷ decimal offset)
    → (p : Place) → p.told ≡ false → IfShown p (IsNotThere s.name file offset) → IsSeenAt w s p → Answers region text w s p s before now false
damaged region text w s file offset before now t p unsure by h =
    comes_damaged file offset (counted p w.faults) (early_down s p h.down h.site) (record { unknown = unsure; kept = kept_counted p w.faults h.faults }) by (seen_counted w s p h) t

-- the look found bytes that stand for nothing, or no site
pub look_damaged : (region : Name) (text : List ℕ) (v w : View) (s : Site) (file offset : ℕ) (before now : List ℕ) → Looked v w → s.state ≡ Down → now ≡ before ++ line s.name (codes "NOTAFILE " ++ decimal file ++ 32 ∷ decimal offset)
    → IfSome v.content (λ files. (c : Contents) → IsSite files c → ⊥) → IfSome v.content (HasNoLayout file offset) → ExecutesAt (map_pattern region text s.name) v s w s before now false
look_damaged region text v w s file offset before now k down t outside bytes p h =
    let unsure : p.told ≡ false = not_true p.told (λ sure.
    let here = some_both v.content _ _ (h.disk.told sure) outside in
    here.2 p.now (reads_site here.0 p.now p.left (h.held.made sure).now.made here.1).0) in
    damaged region text w s file offset before now t p unsure (by_shown p.shown v.content (IsNotThere s.name file offset) h.disk.shown (if_some v.content (HasNoLayout file offset) (IsNotThere s.name file offset) (λ f out. inl out) bytes))
    (unknown_seen w s p down h.site unsure (shown_same p.shown v.content w.content k.content h.disk.shown) (omega (arith, k.later, h.disk.faults)) (k.simulated ∙ h.disk.simulated))

-- another site was found, which no known files tell
pub seen_other : (region : Name) (text : List ℕ) (w : View) (s : Site) (file offset : ℕ) (before now : List ℕ) → now ≡ before ++ line s.name (codes "NOTAFILE " ++ decimal file ++ 32 ∷ decimal offset)
    → IfSome w.content (λ files. (c : Contents) → IsSite files c → IsOf s.name c → ⊥) → IfSome w.content (IsOfAnother s.name file offset) → MapsAt region text w s w s before now false
seen_other region text w s file offset before now t other bytes p h =
    damaged region text w s file offset before now t p (not_true p.told (λ sure.
    let here = some_both w.content _ _ (h.reads sure) other in
    here.2 p.now (reads_site here.0 p.now p.left (h.made sure).now.made here.1).0 (h.made sure).now))
    (by_shown p.shown w.content (IsNotThere s.name file offset) h.shown (if_some w.content (IsOfAnother s.name file offset) (IsNotThere s.name file offset) (λ f other. inr other) bytes)) h

-- what images stand so once a pattern may have been mapped

abbrev named_so : Option ℕ → List ℕ → Contents → List Standing
named_so None text c = []
named_so (Some number) text c = bare (with_pattern number text c) ∷ []

abbrev maps_each : Name → List ℕ → List Standing → List Standing
maps_each region text [] = []
maps_each region text (s ∷ ss) = s ∷ (named_so (region_number region s.contents) text s.contents ++ maps_each region text ss)

abbrev pub maps_standing : Name → List ℕ → Option (List Standing) → Option (List Standing)
maps_standing region text None = None
maps_standing region text (Some os) = Some (maps_each region text os)

named_among : (o : Option ℕ) (number : ℕ) (text : List ℕ) (c : Contents) → o ≡ Some number → Among (named_so o text c) (bare (with_pattern number text c))
named_among None number text c e = absurd (cc e)
named_among (Some n) number text c e = let same : n ≡ number = cc e in inl (ap (λ (k : ℕ). bare (with_pattern k text c)) (sym same))

maps_so_among : (region : Name) (text : List ℕ) (os : List Standing) (s o : Standing) → Among os s → MayMapLeft region text s o → Among (maps_each region text os) o
maps_so_among region text [] s o a m = absurd a
maps_so_among region text (x ∷ xs) s o (inl e) (inl same) = inl (same ∙ e)
maps_so_among region text (x ∷ xs) s o (inl e) (inr k) =
    inr (among_first _ _ o (subst (Among (named_so (region_number region x.contents) text x.contents)) (sym (k.2 ∙ ap (λ (y : Standing). bare (with_pattern k.0 text y.contents)) e))
    (named_among (region_number region x.contents) k.0 text x.contents (ap (λ (y : Standing). region_number region y.contents) (sym e) ∙ k.1))))
maps_so_among region text (x ∷ xs) s o (inr a) m = inr (among_second (named_so (region_number region x.contents) text x.contents) _ o (maps_so_among region text xs s o a m))

named_is : (o : Option ℕ) (text : List ℕ) (c : Contents) (s : Standing) → Among (named_so o text c) s → (number : ℕ) × (o ≡ Some number) × (s ≡ bare (with_pattern number text c))
named_is None text c s a = absurd a
named_is (Some n) text c s (inl e) = (n, refl, e)
named_is (Some n) text c s (inr a) = absurd a

after_each : (region : Name) (text : List ℕ) (os : List Standing) (o : Standing) → Among (maps_each region text os) o → (s : Standing) × Among os s × MayMapLeft region text s o
after_each region text [] o a = absurd a
after_each region text (s ∷ ss) o (inl e) = (s, inl refl, inl e)
after_each region text (s ∷ ss) o (inr a) = elim (among_either (named_so (region_number region s.contents) text s.contents) (maps_each region text ss) o a) [
  | inl here ↦ (s, inl refl, inr (named_is (region_number region s.contents) text s.contents o here))
  | inr there ↦ let k = after_each region text ss o there in (k.0, inr k.1, k.2)
]

after_maps : (region : Name) (text : List ℕ) (x : Option (List Standing)) → StandAfter (MayMapLeft region text) x (maps_standing region text x)
after_maps region text None = tt
after_maps region text (Some os) = after_each region text os

still_maps : (region : Name) (text : List ℕ) (w : View) (x : Option (List Standing)) → ImagesStand w x → ImagesStand w (maps_standing region text x)
still_maps region text w None h = tt
still_maps region text w (Some os) h = λ f i. let o = h f i in (o.0, maps_so_among region text os o.0 o.0 o.1 (inl refl), o.2)

-- a site of no generation that stood so stands so still
still_so : (leftovers : Leftovers) (f g : Files) (s : Standing) → generation s.contents.instance ≡ 0 → StandsSo f s → Stands g s.contents → StandsSo g s
still_so leftovers f g s unbegun (inl none) (inl blank) = inl (none.0, blank.1)
still_so leftovers f g s unbegun (inl none) (inr site) = absurd (false≢true (sym (ap (λ (x : Standing). is_made x.contents) none.0) ∙ site.made))
still_so leftovers f g s unbegun (inr so) (inl blank) = absurd (false≢true (sym (ap is_made blank.0) ∙ so.site.made))
still_so leftovers f g s unbegun (inr so) (inr site) =
    let none : s.broken ≡ [] = ap (λ (l : Leftover). l.broken) (leftovers.one f s.contents (record { broken = s.broken; torn = so.torn }) NO_LEFTOVER so.left (leftovers.unbegun f s.contents so.site unbegun)) in
    inr (record { site = site; torn = []; left = subst (λ (t : List ℕ). HasLeft g s.contents (record { broken = t; torn = [] })) (sym none) (leftovers.unbegun g s.contents site unbegun) })

-- A mapping that ends before it's done: each image stands for what it may leave.

-- the pattern may have been mapped
pub record MayHaveMapped (region : Name) (text : List ℕ) (w : View) (p : Place) : Type 0 where
  pub still_told : p.told ≡ true → IsSome w.content
  pub images : p.told ≡ true → (f : Files) → Image w f → (o : Contents) × After (MayMap region text) p.outcomes o × Stands f o
  pub standings : p.told ≡ true → ImagesStand w (maps_standing region text p.standings)
  pub simulated : w.simulated ≡ p.simulated

mapped_place : (leftovers : Leftovers) (region : Name) (text : List ℕ) (w : View) (p : Place) (site : Option world.Site) → IsLawful w → MayHaveMapped region text w p → ReadPlace w p site (maps region text p.outcomes) (maps_standing region text p.standings)
mapped_place leftovers region text w p site law b =
    place_of_images leftovers w p site (maps region text p.outcomes) (maps_standing region text p.standings) law b.simulated b.still_told (λ sure f i. let k = b.images sure f i in (k.0, maps_among region text p.outcomes k.1.0 k.0 k.1.1 k.1.2, k.2)) b.standings

pub map_cut : (leftovers : Leftovers) (region : Name) (text : List ℕ) (w : View) (s : Site) (p : Place) → IsLawful w → MayHaveMapped region text w p → p.faults ≤ w.faults → (q : Place) × LeftByRow (map_pattern region text s.name p) p q × Matches w q
map_cut leftovers region text w s p law b later =
    let m = mapped_place leftovers region text w p p.site law b in (
      record { site = p.site; told = p.told; now = m.now; left = m.left; outcomes = maps region text p.outcomes; standings = maps_standing region text p.standings; shown = w.content; faults = w.faults; simulated = p.simulated },
      record {
        told = refl;
        outcomes = λ sure o a. inr (among_maps region text p.outcomes o a);
        standings = λ sure. left_new (MayMapLeft region text) p.standings (maps_standing region text p.standings) (after_maps region text p.standings);
        faults = later;
        simulated = refl;
      },
      m.matches,
    )

pub map_fault : (leftovers : Leftovers) (region : Name) (text : List ℕ) (w : View) (s : Site) (p : Place) (k : ℕ) (before now : List ℕ) → IsLawful w → s.state ≡ Down → p.site ≡ Some (site_value s) → (p.told ≡ true → IsMade s.name p) → MayHaveMapped region text w p
    → k ≡ w.faults → Rose p.faults w.faults → now ≡ before ++ line s.name (codes "DISKFAULT " ++ decimal k) → Answers region text w s p (record { name = s.name; state = Failed k }) before now false
map_fault leftovers region text w s p k before now law down site made b count rose t =
    let state = in_new_state (world.Failed k) p.site in
    let m = mapped_place leftovers region text w p state law b in
    let of = λ (sure : p.told ≡ true) (o : Contents) (a : Among (maps region text p.outcomes) o). (let x = among_maps region text p.outcomes o a in of_may_map s.name region text x.0 o ((made sure).outcomes x.0 x.1) x.2) in
    comes_fault
    k
    (record { site = state; told = p.told; now = m.now; left = m.left; outcomes = maps region text p.outcomes; standings = maps_standing region text p.standings; shown = w.content; faults = w.faults; simulated = p.simulated })
    (early_down s p down site)
    (record {
      site = refl;
      known = record { told = refl; now = λ sure. among_maps region text p.outcomes m.now (m.among sure); left = m.behind; outcomes = λ sure o a. among_maps region text p.outcomes o a; standings = λ sure. after_maps region text p.standings };
      count = sym count;
      rose = subst (λ (x : ℕ). Rose p.faults x) (sym count) rose;
      simulated = refl;
    })
    (record {
      disk = m.matches;
      site = ap (in_new_state (world.Failed k)) site;
      held = record { made = λ sure. record { now = of sure m.now (m.among sure); outcomes = of sure }; state = tt };
    })
    t

-- the look alone maps nothing
look_mapped : (region : Name) (text : List ℕ) (v w : View) (s : Site) (p : Place) → s.state ≡ Down → Looked v w → IsAt v s p → MayHaveMapped region text w p
look_mapped region text v w s p down k h = record {
  still_told = λ sure. told_is w.content _ (subst (λ (x : Option Files). IsSomeAnd x (λ files. Reads files p.now p.left)) (sym k.content) (h.disk.told sure));
  images = λ sure f i. let o = look_images v w p (up_down s p down h.site) k h.disk sure f i in (o.0, (o.0, o.1, inl refl), o.2);
  standings = λ sure. still_maps region text w p.standings (look_standings v w p (up_down s p down h.site) k h.disk sure);
  simulated = k.simulated ∙ h.disk.simulated;
}

pub look_faulted : (leftovers : Leftovers) (region : Name) (text : List ℕ) (v w : View) (s : Site) (k : ℕ) (before now : List ℕ) → Looked v w → s.state ≡ Down → k ≡ w.faults → Rose v.faults w.faults
    → now ≡ before ++ line s.name (codes "DISKFAULT " ++ decimal k) → ExecutesAt (map_pattern region text s.name) v s w (record { name = s.name; state = Failed k }) before now false
look_faulted leftovers region text v w s k before now l down count rose t p h =
    map_fault leftovers region text w s p k before now l.lawful down h.site h.held.made (look_mapped region text v w s p down l h) count (subst (λ (x : ℕ). Rose x w.faults) h.disk.faults rose) t

pub look_cut : (leftovers : Leftovers) (region : Name) (text : List ℕ) (v w : View) (s : Site) → s.state ≡ Down → Looked v w → IsCutAt (map_pattern region text s.name) v s w
look_cut leftovers region text v w s down l p h = map_cut leftovers region text w s p l.lawful (look_mapped region text v w s p down l h) (omega (arith, l.later, h.disk.faults))

pub seen_cut : (leftovers : Leftovers) (region : Name) (text : List ℕ) (w : View) (s : Site) → IsLawful w → IsCutSeen region text w s w
seen_cut leftovers region text w s law p h = map_cut leftovers region text w s p law (record {
  still_told = λ sure. told_is w.content _ (h.reads sure);
  images = λ sure f i. let o = h.images sure f i in (o.0, (o.0, o.1, inl refl), o.2);
  standings = λ sure. still_maps region text w p.standings (h.standings sure);
  simulated = h.simulated;
}) h.faults

-- Behind a look.

pub maps_so : (region : Name) (text : List ℕ) (v w u : View) (s new : Site) (before now : List ℕ) (done : Bool) → Looked v w → s.state ≡ Down → AreAlike v w → MapsAt region text w s u new before now done → ExecutesAt (map_pattern region text s.name) v s u new before now done
maps_so region text v w u s new before now done k down alike m p h = m p (seen_at v w s p k down alike h)

pub cut_so : (region : Name) (text : List ℕ) (v w u : View) (s : Site) → Looked v w → s.state ≡ Down → AreAlike v w → IsCutSeen region text w s u → IsCutAt (map_pattern region text s.name) v s u
cut_so region text v w u s k down alike m p h = m p (seen_at v w s p k down alike h)

-- Writing the pattern.

-- what the call says of each moment
pub record Moments (region : Name) (number : ℕ) (text : List ℕ) (v w : View) : Type 1 where
  pub lawful : IsLawful w
  pub free : IfSome v.content (λ files. (c : Contents) → IsSite files c → IsUnmappedIn region number text c)
  pub any_moment : IfSome v.content (λ files. (c : Contents) → IsSite files c → AtEachMoment v w (MayHavePattern v number text))
  pub still_told : IsSome v.content → IsSome w.content
  pub simulated : w.simulated ≡ v.simulated
  pub later : v.faults ≤ w.faults

free_at : (region : Name) (number : ℕ) (text : List ℕ) (v w : View) (s : Site) (p : Place) → Moments region number text v w → IsSeenAt v s p → p.told ≡ true → IsUnmappedIn region number text p.now
free_at region number text v w s p m h sure =
    let here = some_both v.content _ _ (h.reads sure) m.free in
    here.2 p.now (reads_site here.0 p.now p.left (h.made sure).now.made here.1).0

-- a site without a generation that stands so has nothing behind it, and neither has it with the pattern
there_so : (leftovers : Leftovers) (region : Name) (number : ℕ) (text : List ℕ) (v w : View) (s : Site) (p : Place) → Moments region number text v w → IsSeenAt v s p → p.told ≡ true → ImagesStand w (maps_standing region text p.standings)
there_so leftovers region number text v w s p m h sure = among p.standings (h.standings sure)
  where
    among : (x : Option (List Standing)) → ImagesStand v x → ImagesStand w (maps_standing region text x)
    among None k = tt
    among (Some os) k = λ f i.
        let here = some_both v.content _ _ (h.reads sure) m.any_moment in
        let each = here.2 p.now (reads_site here.0 p.now p.left (h.made sure).now.made here.1).0 in
        let from = at_moment v w (MayHavePattern v number text) f m.lawful each i in
        let was = k from.0 from.1 in
        let stood : Stands from.0 was.0.contents = so_stands from.0 was.0 was.2 in
        let free : IsUnmappedIn region number text p.now = free_at region number text v w s p m h sure in
        let alike : was.0.contents.instance ≡ p.now.instance = h.alike sure from.0 was.0.contents from.1 stood in
        let unbegun : generation was.0.contents.instance ≡ 0 = ap generation alike ∙ free.unbegun in
        let named : region_number region was.0.contents ≡ Some number = ap (λ (rs : List InstanceRecord). first_where (λ r. same_name r.name region) (regions rs)) alike ∙ free.named in
        elim (from.2 was.0.contents stood) [
          | inl stands ↦ (was.0, maps_so_among region text os was.0 was.0 was.1 (inl refl), still_so leftovers from.0 f was.0 unbegun was.2 stands)
          | inr mapped ↦ (
            bare (with_pattern number text was.0.contents),
            maps_so_among region text os was.0 (bare (with_pattern number text was.0.contents)) was.1 (inr (number, named, refl)),
            inr (record { site = mapped; torn = []; left = leftovers.unbegun f (with_pattern number text was.0.contents) mapped (generation_map was.0.contents.instance _ _ _ ∙ unbegun) }),
          )
        ]

there_mapped : (leftovers : Leftovers) (region : Name) (number : ℕ) (text : List ℕ) (v w : View) (s : Site) (p : Place) → Moments region number text v w → IsSeenAt v s p → MayHaveMapped region text w p
there_mapped leftovers region number text v w s p m h = record {
  still_told = λ sure. m.still_told (told_is v.content _ (h.reads sure));
  images = λ sure f i.
      let here = some_both v.content _ _ (h.reads sure) m.any_moment in
      let each = here.2 p.now (reads_site here.0 p.now p.left (h.made sure).now.made here.1).0 in
      let from = at_moment v w (MayHavePattern v number text) f m.lawful each i in
      let was = h.images sure from.0 from.1 in
      let free : IsUnmappedIn region number text p.now = free_at region number text v w s p m h sure in
      let named : region_number region was.0 ≡ Some number =
      ap (λ (rs : List InstanceRecord). first_where (λ r. same_name r.name region) (regions rs)) (h.alike sure from.0 was.0 from.1 was.2) ∙ free.named in
      elim (from.2 was.0 was.2) [
        | inl stands ↦ (was.0, (was.0, was.1, inl refl), stands)
        | inr mapped ↦ (with_pattern number text was.0, (was.0, was.1, inr (number, named, refl)), inr mapped)
      ];
  standings = λ sure. there_so leftovers region number text v w s p m h sure;
  simulated = m.simulated ∙ h.simulated;
}

pub there_faulted : (leftovers : Leftovers) (region : Name) (number : ℕ) (text : List ℕ) (v w : View) (s : Site) (k : ℕ) (before now : List ℕ) → Moments region number text v w → k ≡ w.faults → Rose v.faults w.faults
    → now ≡ before ++ line s.name (codes "DISKFAULT " ++ decimal k) → MapsAt region text v s w (record { name = s.name; state = Failed k }) before now false
there_faulted leftovers region number text v w s k before now m count rose t p h =
    map_fault leftovers region text w s p k before now m.lawful h.down h.site h.made (there_mapped leftovers region number text v w s p m h) count (omega (arith, rose, h.faults)) t

pub there_cut : (leftovers : Leftovers) (region : Name) (number : ℕ) (text : List ℕ) (v w : View) (s : Site) → Moments region number text v w → IsCutSeen region text v s w
there_cut leftovers region number text v w s m p h = map_cut leftovers region text w s p m.lawful (there_mapped leftovers region number text v w s p m h) (omega (arith, m.later, h.faults))

-- nothing is shown of a disk that tells nothing
pub shown_none : (x o n : Option Files) → IfSome o (λ _. ⊥) → IfSome x (λ f. o ≡ Some f) → IfSome x (λ f. n ≡ Some f)
shown_none None o n h e = tt
shown_none (Some f) None n h e = absurd (cc e)
shown_none (Some f) (Some g) n h e = absurd h

pub there_damaged : (region : Name) (number : ℕ) (text : List ℕ) (v w : View) (s : Site) (file offset : ℕ) (before now : List ℕ) → Moments region number text v w
    → IfSome v.content (λ files. (c : Contents) → IsSite files c → ⊥) → IfSome v.content (λ _. ⊥) → now ≡ before ++ line s.name (codes "NOTAFILE " ++ decimal file ++ 32 ∷ decimal offset) → MapsAt region text v s w s before now false
there_damaged region number text v w s file offset before now m outside untold t p h =
    let unsure : p.told ≡ false = not_true p.told (λ sure.
    let here = some_both v.content _ _ (h.reads sure) outside in
    here.2 p.now (reads_site here.0 p.now p.left (h.made sure).now.made here.1).0) in
    damaged region text w s file offset before now t p unsure (by_shown p.shown v.content (IsNotThere s.name file offset) h.shown (if_some v.content (λ _. ⊥) (IsNotThere s.name file offset) (λ f none. absurd none) untold))
    (unknown_seen w s p h.down h.site unsure (shown_none p.shown v.content w.content untold h.shown) (omega (arith, m.later, h.faults)) (m.simulated ∙ h.simulated))

-- The pattern was mapped.

done_at : (region : Name) (number : ℕ) (text : List ℕ) (w : View) (s : Site) (before now : List ℕ) (p : Place) (read : Contents) → s.state ≡ Down → p.site ≡ Some (site_value s) → (p.told ≡ true → read ≡ p.now) → region_number region read ≡ Some number
    → unmapped region text p ≡ None → (p.told ≡ true → IsSomeAnd w.content (λ files. Reads files (with_pattern number text read) NO_LEFTOVER))
    → (p.told ≡ true → (f : Files) → Image w f → StandsSo f (bare (with_pattern number text read))) → (p.told ≡ true → IsOf s.name read) → IfShown p (MappedBy region text s.name) → p.faults ≤ w.faults → w.simulated ≡ p.simulated
    → now ≡ before ++ line s.name (codes "MAPPED") → Answers region text w s p s before now true
done_at region number text w s before now p read down site as_before named free reads images of by later same t =
    let d : Contents = with_pattern number text read in
    let q : Place = record { site = in_new_state world.Down p.site; told = p.told; now = d; left = NO_LEFTOVER; outcomes = d ∷ []; standings = Some (bare d ∷ []); shown = w.content; faults = w.faults; simulated = p.simulated } in
    let of_d : p.told ≡ true → IsOf s.name d = λ sure. of_pattern s.name number text read (of sure) in
    comes_done
    q
    (none_refused s.name (in_state why_not_down p.site) (unmapped region text p) (why_at s Down p down site) free)
    (record {
      read = read;
      as_before = as_before;
      number = number;
      named = named;
      becomes = record { site = refl; known = record { told = refl; now = refl; left = refl; outcomes = refl; standings = refl }; faults = later; simulated = refl };
    })
    by
    (record {
      disk = record { told = reads; images = λ sure f i. (d, inl refl, stands_by (has_failed_on q.site) f d (so_stands f (bare d) (images sure f i))); standings = λ sure f i. (bare d, inl refl, stands_so_by (has_failed_on q.site) f (bare d) (images sure f i)); shown = as_told w.content; known = λ _. refl; faults = refl; simulated = same };
      site = ap (in_new_state world.Down) site ∙ ap (λ (x : world.State). Some (record { name = s.name; state = x })) (ap state_value (sym down));
      held = record { made = λ sure. record { now = of_d sure; outcomes = λ o a. subst (IsOf s.name) (sym (only o d a)) (of_d sure) }; state = subst (λ (x : State). HoldsState w x q) (sym down) tt };
    })
    t

-- files that stand for a site without a generation have nothing behind it
unbegun_reads : (leftovers : Leftovers) (number : ℕ) (text : List ℕ) (c : Contents) (f : Files) → generation c.instance ≡ 0 → IsSite f (with_pattern number text c) → Reads f (with_pattern number text c) NO_LEFTOVER
unbegun_reads leftovers number text c f e site = inr (site, leftovers.unbegun f (with_pattern number text c) site (generation_map c.instance _ _ _ ∙ e))

unbegun_so : (leftovers : Leftovers) (number : ℕ) (text : List ℕ) (c : Contents) (f : Files) → generation c.instance ≡ 0 → IsSite f (with_pattern number text c) → StandsSo f (bare (with_pattern number text c))
unbegun_so leftovers number text c f e site = inr (record { site = site; torn = []; left = leftovers.unbegun f (with_pattern number text c) site (generation_map c.instance _ _ _ ∙ e) })

done_told : (leftovers : Leftovers) (region : Name) (number : ℕ) (text : List ℕ) (v w : View) (s : Site) (before now : List ℕ) (p : Place) → Moments region number text v w → IsSeenAt v s p → p.told ≡ true
    → IfSome v.content (λ files. (c : Contents) → IsSite files c → IfSome w.content (λ now. IsSite now (with_pattern number text c)))
    → IfSome v.content (λ files. (c : Contents) → IsSite files c → EachStands v → (f : Files) → Image w f → IsSite f (with_pattern number text c))
    → IfSome v.content (MappedBy region text s.name) → now ≡ before ++ line s.name (codes "MAPPED") → Answers region text w s p s before now true
done_told leftovers region number text v w s before now p m h sure reads images by t =
    let d : Contents = with_pattern number text p.now in
    let free : IsUnmappedIn region number text p.now = free_at region number text v w s p m h sure in
    let read = some_both v.content _ _ (h.reads sure) reads in
    let image = some_both v.content _ _ (h.reads sure) images in
    let made = (h.made sure).now.made in
    let stands : EachStands v = λ f i. (let o = h.images sure f i in (o.0, o.2)) in
    let told : IsSomeAnd w.content (λ files. Reads files d NO_LEFTOVER) =
    some_and w.content (λ f. IsSite f d) (λ f. Reads f d NO_LEFTOVER) (λ f k. unbegun_reads leftovers number text p.now f free.unbegun k)
    (some_and_of w.content (λ f. IsSite f d) (m.still_told (told_is v.content _ (h.reads sure))) (read.2 p.now (reads_site read.0 p.now p.left made read.1).0)) in
    done_at region number text w s before now p p.now h.down h.site (λ _. refl) free.named (not_refused region text p number sure free.unbegun free.named free.once) (λ _. told)
    (λ _ f i. unbegun_so leftovers number text p.now f free.unbegun (image.2 p.now (reads_site image.0 p.now p.left made image.1).0 stands f i)) (λ _. (h.made sure).now) (by_shown p.shown v.content (MappedBy region text s.name) h.shown by) (omega (arith, m.later, h.faults)) (m.simulated ∙ h.simulated) t

done_untold : (region : Name) (number : ℕ) (text : List ℕ) (v w : View) (s : Site) (before now : List ℕ) (p : Place) (read : Contents) → Moments region number text v w → IsSeenAt v s p → p.told ≡ false
    → region_number region read ≡ Some number → IfSome v.content (MappedBy region text s.name) → now ≡ before ++ line s.name (codes "MAPPED") → Answers region text w s p s before now true
done_untold region number text v w s before now p read m h unsure named by t =
    done_at region number text w s before now p read h.down h.site (λ sure. absurd (false≢true (sym unsure ∙ sure))) named (unmapped_unknown region text p unsure) (λ sure. absurd (false≢true (sym unsure ∙ sure)))
    (λ sure. absurd (false≢true (sym unsure ∙ sure))) (λ sure. absurd (false≢true (sym unsure ∙ sure))) (by_shown p.shown v.content (MappedBy region text s.name) h.shown by) (omega (arith, m.later, h.faults)) (m.simulated ∙ h.simulated) t

pub there_done : (leftovers : Leftovers) (region : Name) (number : ℕ) (text : List ℕ) (v w : View) (s : Site) (before now : List ℕ) → Moments region number text v w → ((c : Contents) × (region_number region c ≡ Some number))
    → IfSome v.content (λ files. (c : Contents) → IsSite files c → IfSome w.content (λ now. IsSite now (with_pattern number text c)))
    → IfSome v.content (λ files. (c : Contents) → IsSite files c → EachStands v → (f : Files) → Image w f → IsSite f (with_pattern number text c))
    → IfSome v.content (MappedBy region text s.name) → now ≡ before ++ line s.name (codes "MAPPED") → MapsAt region text v s w s before now true
there_done leftovers region number text v w s before now m named reads images by t p h = elim (is_true_or_false p.told) [
  | inl sure ↦ done_told leftovers region number text v w s before now p m h sure reads images by t
  | inr unsure ↦ done_untold region number text v w s before now p named.0 m h unsure named.1 by t
]
