-- What signs tell of the completeness of entries.
use Rattle.std.proofs.Common.{◌≡◌, ℕ, zero, suc, ◌+◌, ◌≤◌, ◌<◌, ◌==◌, ◌&&◌, ◌||◌, not, Bool, true, false, List, [], ◌∷◌, ◌++◌, length, take, drop, get_or, Option, Some, None, IsSome, is_some, refl, sym, ◌∙◌, ap, subst, arith, if◌then◌else◌}
use Rattle.std.proofs.Math.Path.{fun_ext}
use Rattle.std.proofs.lemmas.Bool.Decides.{nat_tests}
use Rattle.std.proofs.lemmas.List.{drop_all, take_all}
use Rattle.std.specs.List.{list_all}
use Rattle.std.specs.Option.{option_or, option_map, option_and_then}
use Rattle.global_defs.specs.declared.limits.TheConstants.{MOST_REGIONS}
use Rattle.disk_defs.specs.Disk.{Files}
use Rattle.global_defs.specs.Entry.{Entry, Origin, Stamp, Reign}
use Rattle.global_defs.specs.Prefix.{stamp_at}
use Rattle.journal_defs.specs.Journal.{Item, Part}
use Rattle.journal_defs.specs.Sequence.{REGIONS, in_mask, is_like, items_of, items_in, updates_from, updates_of, updates_by, entry_by, entry_among, entry_with}
use Rattle.global_defs.specs.Serial.{entry_of}
use Rattle.gvn_model.specs.Entries.{origin_value}
use Rattle.mupip_recover.specs.Entries.{entry_in}
use Rattle.mupip_recover.specs.Slots.{next_after, is_at}
use Rattle.mupip_recover.specs.Parts.{items_at}
use Rattle.mupip_recover.proofs.InOrder.{by_order}
use Rattle.mupip_recover.proofs.Completion.{among_found}
use Rattle.entry_index.specs.RecordSigns.{first_of, is_row, span_of}
use Rattle.entry_index.specs.declared.sign.Span.{Span}
use Rattle.entry_index.specs.declared.signed_part.PartSign.{PartSign}
use Rattle.entry_index.specs.declared.completing.Told.{Told}
use Rattle.entry_index.specs.declared.completing.Told.TheVariants.{Complete, Broken, Unsure}
use Rattle.entry_index.specs.declared.place.PartPlace.{PartPlace}
use Rattle.entry_index.specs.Parts.{InFiles, NOWHERE, IsPartAt, AreParts}
use Rattle.entry_index.specs.Signs.{Tells, IsSign}
use Rattle.entry_index.specs.Completing.{is_like_some, agrees_by_sign, NO_SPAN, span_told, span_at, place_told, IsTold, Decides, IsAlone}
use Rattle.entry_index.specs.Indexes.{IsNext}
use Rattle.entry_index.proofs.Alone.{one_part}
use Rattle.entry_index.proofs.Cursors.{no_head}

-- items in a row
pub row_end : (i : ℕ) (items : List Item) → next_after i items ≡ (if is_row i items then Some (i + length items) else None)
row_end i [] = ap Some (omega arith)
row_end i (x ∷ items) = elim (x.position == i) as (λ b. (if b then next_after (suc i) items else None) ≡ (if b && is_row (i + 1) items then Some (i + suc (length items)) else None)) [
  | true ↦
      let at : suc i ≡ i + 1 = omega arith in
      row_end (suc i) items ∙ ap (λ (k : ℕ). if is_row k items then Some (suc i + length items) else None) at ∙ ap (λ (k : ℕ). if is_row (i + 1) items then Some k else None) (omega arith)
  | false ↦ refl
]

-- the span of a region's items tells where they end, where they begin at a position and have a row
pub span_end : (next : ℕ) (items : List Item) (s : Span) → s ≡ span_of items → s.in_a_row ≡ true → s.first ≡ next → next_after next items ≡ Some (next + s.many)
span_end next items s is row first =
    let start : first_of items ≡ next = sym (ap (λ (x : Span). x.first) is) ∙ first in
    let in_row : is_row next items ≡ true = subst (λ (k : ℕ). is_row k items ≡ true) start (sym (ap (λ (x : Span). x.in_a_row) is) ∙ row) in
    let many : length items ≡ s.many = sym (ap (λ (x : Span). x.many) is) in
    row_end next items ∙ ap (λ (b : Bool). if b then Some (next + length items) else None) in_row ∙ ap (λ (k : ℕ). Some (next + k)) many

-- no region is left
pub past_regions : (i : ℕ) → 8 ≤ i → drop i REGIONS ≡ []
past_regions i past = drop_all i REGIONS past

pub all_regions : (i : ℕ) → 8 ≤ i → REGIONS ≡ take i REGIONS
all_regions i past = sym (take_all i REGIONS past)

broken_by : (items : List Item) (count : ℕ) (agree : Bool) → (length items == count) ≡ false → (if agree then updates_of items count else None) ≡ None
broken_by items count true other = ap (λ (b : Bool). if b then updates_from items 0 count else None) other
broken_by items count false other = refl

module _ (files : Files) (n : ℕ) (sign : ℕ → Option PartSign) (part : ℕ → Option Part) (are : (r : ℕ) → IsSign files r n (sign r) (part r)) where
  told_items : (r : ℕ) (s : Option PartSign) (p : Option Part) → IsSign files r n s p → span_told s ≡ span_of (items_of p)
  told_items r None None is = refl
  told_items r None (Some p) is = absurd is
  told_items r (Some s) None is = absurd is
  told_items r (Some s) (Some p) is = is.span

  masked : (mask r : ℕ) (b : Bool) → span_told (sign r) ≡ span_of (items_of (part r)) → (if b then span_told (sign r) else NO_SPAN) ≡ span_of (if b then items_of (part r) else [])
  masked mask r true h = h
  masked mask r false h = refl

  -- the spans of the regions of a mask
  pub spans : (mask r : ℕ) → span_at mask sign r ≡ span_of (items_at mask part r)
  spans mask r = masked mask r (in_mask mask r) (told_items r (sign r) (part r) (are r))

  liked : (r : ℕ) (head : PartSign) (p : Part) (s : Option PartSign) (x : Option Part) → head.mask ≡ p.mask → head.count ≡ p.count → origin_value head.origin ≡ p.origin → IsSign files r n s x → is_like_some head s ≡ is_like p x
  liked r head p None None mask count origin is = refl
  liked r head p None (Some x) mask count origin is = absurd is
  liked r head p (Some s) None mask count origin is = absurd is
  liked r head p (Some s) (Some x) mask count origin is =
      let m : (s.mask == head.mask) ≡ (x.mask == p.mask) = cc (is.mask, mask) in
      let c : (s.count == head.count) ≡ (x.count == p.count) = cc (is.count, count) in
      let su : s.origin.updater ≡ x.origin.updater = ap (λ (o : Origin). o.updater) is.origin in
      let hu : head.origin.updater ≡ p.origin.updater = ap (λ (o : Origin). o.updater) origin in
      let ss : s.origin.serial ≡ x.origin.serial = ap (λ (o : Origin). o.serial) is.origin in
      let hs : head.origin.serial ≡ p.origin.serial = ap (λ (o : Origin). o.serial) origin in
      let u : (s.origin.updater == head.origin.updater) ≡ (x.origin.updater == p.origin.updater) = cc (su, hu) in
      let w : (s.origin.serial == head.origin.serial) ≡ (x.origin.serial == p.origin.serial) = cc (ss, hs) in
      cc (m, c, u, w)

  -- whether all regions agree, by their signs
  pub agreement : (r : ℕ) (head : PartSign) (p : Part) → Tells files r n head p
      → list_all (λ q. agrees_by_sign head (sign q) q) REGIONS ≡ list_all (λ q. not (in_mask p.mask q) || is_like p (part q)) REGIONS
  agreement r head p tells =
      let same : (λ q. agrees_by_sign head (sign q) q) ≡ (λ q. not (in_mask p.mask q) || is_like p (part q)) = fun_ext (λ q.
      ap (λ (b : Bool). not (in_mask head.mask q) || b) (liked q head p (sign q) (part q) tells.mask tells.count tells.origin (are q))
      ∙ ap (λ (m : ℕ). not (in_mask m q) || is_like p (part q)) tells.mask) in
      ap (λ (f : ℕ → Bool). list_all f REGIONS) same

  -- where they don't agree
  pub not_agreed : (r : ℕ) (head : PartSign) (p : Part) → Tells files r n head p → list_all (λ q. agrees_by_sign head (sign q) q) REGIONS ≡ false → updates_by part p ≡ None
  not_agreed r head p tells differ = ap (λ (b : Bool). if b then updates_of (items_in p.mask part) p.count else None) (sym (agreement r head p tells) ∙ differ)

  agreed : (r : ℕ) (head : PartSign) (p : Part) → Tells files r n head p → list_all (λ q. agrees_by_sign head (sign q) q) REGIONS ≡ true → updates_by part p ≡ updates_of (items_in p.mask part) p.count
  agreed r head p tells alike = ap (λ (b : Bool). if b then updates_of (items_in p.mask part) p.count else None) (sym (agreement r head p tells) ∙ alike)

  -- where the positions are in order
  pub in_order : (r : ℕ) (head : PartSign) (p : Part) → Tells files r n head p → list_all (λ q. agrees_by_sign head (sign q) q) REGIONS ≡ true
      → is_at head.count (next_after 0 (items_in head.mask part)) ≡ true → IsSome (updates_by part p)
  in_order r head p tells alike order =
      let at : is_at p.count (next_after 0 (items_in p.mask part)) ≡ true =
      subst (λ (m : ℕ). is_at p.count (next_after 0 (items_in m part)) ≡ true) tells.mask (subst (λ (k : ℕ). is_at k (next_after 0 (items_in head.mask part)) ≡ true) tells.count order) in
      subst IsSome (sym (agreed r head p tells alike ∙ by_order (items_in p.mask part) p.count at)) refl

  -- where their number isn't the count
  pub not_counted : (r : ℕ) (head : PartSign) (p : Part) → Tells files r n head p → (length (items_in head.mask part) == head.count) ≡ false → updates_by part p ≡ None
  not_counted r head p tells other =
      let at : (length (items_in p.mask part) == p.count) ≡ false =
      subst (λ (m : ℕ). (length (items_in m part) == p.count) ≡ false) tells.mask (subst (λ (k : ℕ). (length (items_in head.mask part) == k) ≡ false) tells.count other) in
      broken_by (items_in p.mask part) p.count (list_all (λ q. not (in_mask p.mask q) || is_like p (part q)) REGIONS) at

head_part : (files : Files) (r n : ℕ) (head : PartSign) (x : Option Part) → IsSign files r n (Some head) x → (p : Part) × (x ≡ Some p) × Tells files r n head p
head_part files r n head None is = absurd is
head_part files r n head (Some p) is = (p, refl, is)

told_mapped : {X Y : Type 0} (f : X → Y) (told : Told) (o : Option X) → IsTold told o → IsTold told (option_map f o)
told_mapped f Complete None h = cc
told_mapped f Complete (Some x) h = refl
told_mapped f Broken None h = refl
told_mapped f Broken (Some x) h = cc
told_mapped f Unsure o h = tt

-- what is told of an entry by its part in a region
pub told_by_part : (files : Files) (n : ℕ) (part : ℕ → Option Part) (stamp : Stamp) (r : ℕ) (head : PartSign) (told : Told) → IsSign files r n (Some head) (part r)
    → ((p : Part) → Tells files r n head p → Decides told part p) → IsTold told (entry_in part stamp r)
told_by_part files n part stamp r head told is decides =
    let (p, at, tells) = head_part files r n head (part r) is in
    subst (λ (o : Option Part). IsTold told (option_and_then (λ q. entry_by part stamp q) o)) (sym at)
    (told_mapped (λ us. entry_of stamp p.origin.updater p.origin.serial us) told (updates_by part p) (decides p tells))

-- and by the only part, whose positions are in order
pub told_alone : (files : Files) (n : ℕ) (part : ℕ → Option Part) (stamp : Stamp) (r : ℕ) (head : PartSign) → r < MOST_REGIONS → IsSign files r n (Some head) (part r) → IsAlone head r → IsSome (entry_in part stamp r)
told_alone files n part stamp r head low is (mask, row, first, many) =
    let (p, at, tells) = head_part files r n head (part r) is in
    let counts : (0 + head.span.many == p.count) ≡ true = grind (arith, nat_tests, many, tells.count) in
    let order : is_at p.count (next_after 0 p.items) ≡ true = ap (is_at p.count) (span_end 0 p.items head.span tells.span row first) ∙ counts in
    subst (λ (o : Option Part). IsSome (option_and_then (λ q. entry_by part stamp q) o)) (sym at)
    (told_mapped (λ us. entry_of stamp p.origin.updater p.origin.serial us) Complete (updates_by part p) (one_part part r p low at (sym tells.mask ∙ mask) order))

pub no_part_there : (files : Files) (n : ℕ) (part : ℕ → Option Part) (stamp : Stamp) (r : ℕ) → IsSign files r n None (part r) → entry_in part stamp r ≡ None
no_part_there files n part stamp r is = ap (option_and_then (λ q. entry_by part stamp q)) (no_head files r n (part r) is)

-- something that is there
pub some_of : {X : Type 0} (o : Option X) → IsSome o → (x : X) × (o ≡ Some x)
some_of None h = cc
some_of (Some x) h = (x, refl)

-- the first region that tells something
pub told_first : (part : ℕ → Option Part) (stamp : Stamp) (r : ℕ) (told : Told) → r < MOST_REGIONS → entry_among part stamp REGIONS ≡ entry_among part stamp (drop r REGIONS)
    → IsTold told (entry_in part stamp r) → (told ≡ Broken → ⊥) → IsTold told (entry_among part stamp REGIONS)
told_first part stamp r Complete low before is not_broken =
    let (e, at) = some_of (entry_in part stamp r) is in
    subst IsSome (sym (before ∙ among_found part stamp r e low at)) refl
told_first part stamp r Broken low before is not_broken = absurd (not_broken refl)
told_first part stamp r Unsure low before is not_broken = tt

place_stands : (files : Files) (r n : ℕ) (s : Option PartSign) (x : Option Part) → IsSign files r n s x → IsPartAt (InFiles files) r n (place_told s) x
place_stands files r n None None is = refl
place_stands files r n None (Some p) is = absurd is
place_stands files r n (Some s) None is = absurd is
place_stands files r n (Some s) (Some p) is = is.stands

-- the places that all signs tell
pub all_placed : (files : Files) (n k : ℕ) (sign : ℕ → Option PartSign) (part : ℕ → Option Part) (row : List PartPlace) → length row ≡ k
    → ((r : ℕ) → r < k → get_or row r NOWHERE ≡ place_told (sign r)) → ((r : ℕ) → IsSign files r n (sign r) (part r)) → ((r : ℕ) → k ≤ r → part r ≡ None) → AreParts (InFiles files) n row part
all_placed files n k sign part row long each are past = record {
  each = λ r low. subst (λ (p : PartPlace). IsPartAt (InFiles files) r n p (part r)) (sym (each r (omega (arith, low, long)))) (place_stands files r n (sign r) (part r) (are r));
  no_more = λ r high. past r (omega (arith, high, long));
}

none_there : {X : Type 0} (o : Option X) → false ≡ is_some o → o ≡ None
none_there None h = refl
none_there (Some x) h = cc

-- the next entry, or none, by what is known of its parts
pub is_next : (files : Files) (reigns : List Reign) (n : ℕ) (part : ℕ → Option Part) (s : Stamp) (row old new : List PartPlace) → Some s ≡ stamp_at n reigns
    → true ≡ is_some (entry_among part s REGIONS) → AreParts (InFiles files) n row part → new ≡ old ++ row → IsNext files reigns n part true old new
is_next files reigns n part s row old new begun is at places = (row, places, at, subst (λ (o : Option Stamp). IsSome (entry_with part o)) begun (sym is))

pub no_next : (files : Files) (reigns : List Reign) (n : ℕ) (part : ℕ → Option Part) (s : Stamp) (old : List PartPlace) → Some s ≡ stamp_at n reigns
    → false ≡ is_some (entry_among part s REGIONS) → IsNext files reigns n part false old old
no_next files reigns n part s old begun is = (refl, sym (ap (entry_with part) begun) ∙ none_there (entry_among part s REGIONS) is)

-- no reign has begun by then
pub not_begun : (files : Files) (reigns : List Reign) (n : ℕ) (part : ℕ → Option Part) (old : List PartPlace) → is_some (stamp_at n reigns) ≡ false → IsNext files reigns n part false old old
not_begun files reigns n part old none = (refl, ap (entry_with part) (none_there (stamp_at n reigns) (sym none)))

some_or : {X : Type 0} (a b : Option X) → IsSome b → IsSome (option_or a b)
some_or None b is = is
some_or (Some x) b is = refl

some_behind : (part : ℕ → Option Part) (stamp : Stamp) (k : ℕ) (rs : List ℕ) → IsSome (entry_among part stamp (drop k rs)) → IsSome (entry_among part stamp rs)
some_behind part stamp zero rs is = is
some_behind part stamp (suc k) [] is = is
some_behind part stamp (suc k) (r ∷ rs) is = some_or (entry_in part stamp r) (entry_among part stamp rs) (some_behind part stamp k rs is)

-- an entry with a part that is the only one of its entry is complete
pub alone_complete : (files : Files) (n : ℕ) (part : ℕ → Option Part) (stamp : Stamp) (r : ℕ) (s : PartSign) → r < MOST_REGIONS → IsSign files r n (Some s) (part r) → IsAlone s r → IsSome (entry_among part stamp REGIONS)
alone_complete files n part stamp r s low sign alone = some_behind part stamp r REGIONS (by (entry_in part stamp r) refl (told_alone files n part stamp r s low sign alone))
  where
    by : (o : Option Entry) → entry_in part stamp r ≡ o → IsSome o → IsSome (entry_among part stamp (drop r REGIONS))
    by None is some = absurd (cc some)
    by (Some e) is some = subst IsSome (sym (among_found part stamp r e low is)) refl
