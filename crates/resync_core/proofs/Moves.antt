-- Steps that may change each site at once, and keep a world fit.
use Rattle.std.proofs.Common.{◌≡◌, ◌≢◌, ◌⊎◌, inl, inr, ℕ, suc, ◌<◌, ◌≤◌, List, [], ◌∷◌, ◌++◌, length, take, Some, slice_get, refl, sym, ◌∙◌, ap, subst, arith}
use Rattle.std.proofs.lemmas.Bool.{cases_eq}
use Rattle.global_defs.specs.Entry.{Stamp, Entry, Sequence}
use Rattle.global_defs.specs.Prefix.{IsPrefix}
use Rattle.lineage_defs.specs.Sites.{Primary, Following, Site, World, hardened_part}
use Rattle.lineage_defs.specs.Lineage.{Agree, HasCycles, IsAmong, IsFitSite, HasPrimary, IsFit}
use Rattle.resync_core.proofs.Fronts as lists
use Rattle.global_defs.proofs.Lists.{get-push}

-- the entries are a front of those of a site, and of another site's hardened ones
pub record IsFront (w : World) (j : ℕ) (new : Site) : Type 0 where
  pub place : ℕ
  pub site : Site
  pub there : slice_get w place ≡ Some site
  pub begins : IsPrefix new.sequence site.sequence
  pub hardened : place ≢ j → IsPrefix new.sequence (hardened_part site)

-- the primary made one entry more
pub record IsMore (old new : Site) : Type 0 where
  pub stamp : Stamp
  pub serials : List ℕ
  pub made : Entry
  pub role : old.role ≡ Primary stamp serials
  pub its : made.stamp ≡ stamp
  pub after : new.sequence ≡ old.sequence ++ made ∷ []

pub record GoesOn (stamp : Stamp) (old new : Site) : Type 0 where
  pub serials : List ℕ
  pub role : old.role ≡ Primary stamp serials
  pub grows : IsPrefix (hardened_part old) (hardened_part new)

-- what the site at a place becomes in one step
pub record Move (w v : World) (j : ℕ) (old new : Site) : Type 0 where
  pub name : new.name ≡ old.name
  pub cycle : old.cycle ≤ new.cycle
  pub fit : IsFitSite new
  pub source : IsFront w j new ⊎ IsMore old new
  pub reign : (stamp : Stamp) (serials : List ℕ) → new.role ≡ Primary stamp serials → GoesOn stamp old new ⊎ (old.cycle < stamp.cycle)
  pub session : (primary : List ℕ) (sent received : Sequence) → new.role ≡ Following primary sent received → HasPrimary w primary sent received new.sequence
  -- where it has followers
  pub held : (k : ℕ) (b : Site) (sent received : Sequence) → slice_get v k ≡ Some b → b.role ≡ Following old.name sent received
      → IsPrefix (hardened_part old) (hardened_part new)

pub record Back (w v : World) (j : ℕ) (new : Site) : Type 0 where
  pub old : Site
  pub there : slice_get w j ≡ Some old
  pub move : Move w v j old new

pub record Forth (w v : World) (j : ℕ) (old : Site) : Type 0 where
  pub new : Site
  pub there : slice_get v j ≡ Some new
  pub move : Move w v j old new

pub record Moves (w v : World) : Type 0 where
  pub back : (j : ℕ) (new : Site) → slice_get v j ≡ Some new → Back w v j new
  pub forth : (j : ℕ) (old : Site) → slice_get w j ≡ Some old → Forth w v j old

-- an entry that was somewhere before
record Old (w : World) (j : ℕ) (new : Site) (i : ℕ) (x : Entry) : Type 0 where
  place : ℕ
  site : Site
  there : slice_get w place ≡ Some site
  had : slice_get site.sequence i ≡ Some x
  fronts : take (suc i) new.sequence ≡ take (suc i) site.sequence
  hardened : place ≢ j → slice_get (hardened_part site) i ≡ Some x

-- the entry that its primary made
record Last (old : Site) (i : ℕ) (x : Entry) : Type 0 where
  stamp : Stamp
  serials : List ℕ
  role : old.role ≡ Primary stamp serials
  its : x.stamp ≡ stamp
  place : i ≡ length old.sequence

seen-front : (w : World) (j : ℕ) (new : Site) (i : ℕ) (x : Entry) → IsFront w j new → slice_get new.sequence i ≡ Some x → Old w j new i x
seen-front w j new i x f is = record {
  place = f.place;
  site = f.site;
  there = f.there;
  had = lists.prefix-get new.sequence f.site.sequence i x f.begins is;
  fronts = lists.prefix-take new.sequence f.site.sequence i x f.begins is;
  hardened = λ other. lists.prefix-get new.sequence (hardened_part f.site) i x (f.hardened other) is;
}

seen-more : (w : World) (j : ℕ) (old new : Site) (i : ℕ) (x : Entry) → slice_get w j ≡ Some old → IsMore old new → slice_get new.sequence i ≡ Some x
    → Old w j new i x ⊎ Last old i x
seen-more w j old new i x there more is =
    let begins : IsPrefix old.sequence new.sequence = (more.made ∷ [], more.after) in
    elim (get-push old.sequence more.made i x (subst (λ (l : Sequence). slice_get l i ≡ Some x) more.after is)) [
      | inl before ↦ inl (record {
        place = j;
        site = old;
        there = there;
        had = before;
        fronts = sym (lists.prefix-take old.sequence new.sequence i x begins before);
        hardened = λ other. absurd (other refl);
      })
      | inr last ↦ inr (record { stamp = more.stamp; serials = more.serials; role = more.role; its = ap (λ (e : Entry). e.stamp) last.1 ∙ more.its; place = last.0 })
    ]

seen : (w v : World) (j : ℕ) (old new : Site) (i : ℕ) (x : Entry) → slice_get w j ≡ Some old → Move w v j old new → slice_get new.sequence i ≡ Some x
    → Old w j new i x ⊎ Last old i x
seen w v j old new i x there move is = elim move.source [
  | inl f ↦ inl (seen-front w j new i x f is)
  | inr more ↦ seen-more w j old new i x there more is
]

pub same-site : (w : World) (i j : ℕ) (a b : Site) → slice_get w i ≡ Some a → slice_get w j ≡ Some b → i ≡ j → a ≡ b
same-site w i j a b at bt same = lists.get-one w j a b (subst (λ (k : ℕ). slice_get w k ≡ Some a) same at) bt

-- elsewhere an entry of a primary's reign is one of its hardened ones
among : (w : World) → IsFit w → (i j : ℕ) (a new : Site) (stamp : Stamp) (serials : List ℕ) (n : ℕ) (x : Entry) → slice_get w i ≡ Some a → i ≢ j
    → a.role ≡ Primary stamp serials → x.stamp ≡ stamp → Old w j new n x → slice_get (hardened_part a) n ≡ Some x
among w h i j a new stamp serials n x at apart role its o = elim (cases_eq o.place i) [
  | inl here ↦
      let same : o.site ≡ a = same-site w o.place i o.site a o.there at here in
      subst (λ (s : Site). slice_get (hardened_part s) n ≡ Some x) same (o.hardened (λ e. apart (sym here ∙ e)))
  | inr other ↦ h.shipped i o.place a o.site stamp serials at o.there (λ e. other (sym e)) role n x o.had its
]

-- so none stands elsewhere at the number of the next one
not-yet : (w : World) → IsFit w → (i j : ℕ) (a new : Site) (n : ℕ) (x y : Entry) → slice_get w i ≡ Some a → i ≢ j
    → Last a n y → x.stamp ≡ y.stamp → Old w j new n x → ⊥
not-yet w h i j a new n x y at apart last same o =
    let there = among w h i j a new last.stamp last.serials n x at apart last.role (same ∙ last.its) o in
    let low = lists.front-within a.hardened a.sequence n x there in
    let place = last.place in omega arith

root-of : (w : World) → IsFit w → (j : ℕ) (b : Site) (n : ℕ) (x : Entry) → slice_get w j ≡ Some b → Last b n x → x.stamp.root ≡ b.name
root-of w h j b n x bt last = ap (λ (s : Stamp). s.root) last.its ∙ ((h.each j b bt).reigning last.stamp last.serials last.role).root

two-makers : (w : World) → IsFit w → (i j : ℕ) (a b : Site) (m n : ℕ) (x y : Entry) → slice_get w i ≡ Some a → slice_get w j ≡ Some b → i ≢ j
    → Last a m x → Last b n y → x.stamp ≡ y.stamp → ⊥
two-makers w h i j a b m n x y at bt apart first second same =
    apart (h.apart i j a b at bt (sym (root-of w h i a m x at first) ∙ ap (λ (s : Stamp). s.root) same ∙ root-of w h j b n y bt second))

still-apart : (w v : World) → IsFit w → Moves w v → (i j : ℕ) (a b : Site) → slice_get v i ≡ Some a → slice_get v j ≡ Some b → a.name ≡ b.name → i ≡ j
still-apart w v h moves i j a b at bt same =
    let p = moves.back i a at in let q = moves.back j b bt in
    h.apart i j p.old q.old p.there q.there (sym p.move.name ∙ same ∙ q.move.name)

agree-apart : (w v : World) → IsFit w → Moves w v → (i j : ℕ) (a b : Site) → slice_get v i ≡ Some a → slice_get v j ≡ Some b → i ≢ j → Agree a.sequence b.sequence
agree-apart w v h moves i j a b at bt apart n x y is has same =
    let p = moves.back i a at in let q = moves.back j b bt in
    elim (seen w v i p.old a n x p.there p.move is) [
      | inl o ↦ elim (seen w v j q.old b n y q.there q.move has) [
        | inl u ↦ o.fronts ∙ h.agree o.place u.place o.site u.site o.there u.there n x y o.had u.had same ∙ sym u.fronts
        | inr last ↦ absurd (not-yet w h j i q.old a n x y q.there (λ e. apart (sym e)) last same o)
      ]
      | inr first ↦ elim (seen w v j q.old b n y q.there q.move has) [
        | inl u ↦ absurd (not-yet w h i j p.old b n y x p.there apart first (sym same) u)
        | inr last ↦ absurd (two-makers w h i j p.old q.old n n x y p.there q.there apart first last same)
      ]
    ]

still-agree : (w v : World) → IsFit w → Moves w v → (i j : ℕ) (a b : Site) → slice_get v i ≡ Some a → slice_get v j ≡ Some b → Agree a.sequence b.sequence
still-agree w v h moves i j a b at bt n x y is has same = elim (cases_eq i j) [
  | inl here ↦ ap (λ (s : Site). take (suc n) s.sequence) (same-site v i j a b at bt here)
  | inr apart ↦ agree-apart w v h moves i j a b at bt apart n x y is has same
]

still-cycles : (w v : World) → IsFit w → Moves w v → (i j : ℕ) (a b : Site) → slice_get v i ≡ Some a → slice_get v j ≡ Some b → HasCycles a.name a.cycle b.sequence
still-cycles w v h moves i j a b at bt n x is root =
    let p = moves.back i a at in let q = moves.back j b bt in let rises = p.move.cycle in
    elim (seen w v j q.old b n x q.there q.move is) [
      | inl o ↦ let low = h.cycles i o.place p.old o.site p.there o.there n x o.had (root ∙ p.move.name) in omega arith
      | inr last ↦
          let names : p.old.name ≡ q.old.name = sym p.move.name ∙ sym root ∙ root-of w h j q.old n x q.there last in
          let same : p.old ≡ q.old = same-site w i j p.old q.old p.there q.there (h.apart i j p.old q.old p.there q.there names) in
          let low = ((h.each j q.old q.there).reigning last.stamp last.serials last.role).cycle in
          let one : x.stamp.cycle ≡ last.stamp.cycle = ap (λ (s : Stamp). s.cycle) last.its in
          let two : p.old.cycle ≡ q.old.cycle = ap (λ (s : Site). s.cycle) same in
          omega arith
    ]

still-shipped : (w v : World) → IsFit w → Moves w v → (i j : ℕ) (a b : Site) (stamp : Stamp) (serials : List ℕ) → slice_get v i ≡ Some a → slice_get v j ≡ Some b → i ≢ j
    → a.role ≡ Primary stamp serials → IsAmong stamp b.sequence (hardened_part a)
still-shipped w v h moves i j a b stamp serials at bt apart role n x is its =
    let p = moves.back i a at in let q = moves.back j b bt in
    let own : x.stamp.root ≡ p.old.name = ap (λ (s : Stamp). s.root) its ∙ (p.move.fit.reigning stamp serials role).root ∙ p.move.name in
    elim (seen w v j q.old b n x q.there q.move is) [
      | inl o ↦ elim (p.move.reign stamp serials role) [
        | inl on ↦ lists.prefix-get (hardened_part p.old) (hardened_part a) n x on.grows (among w h i j p.old b stamp on.serials n x p.there apart on.role its o)
        | inr past ↦
            let low = h.cycles i o.place p.old o.site p.there o.there n x o.had own in
            let one : x.stamp.cycle ≡ stamp.cycle = ap (λ (s : Stamp). s.cycle) its in
            absurd (omega arith)
      ]
      | inr last ↦ absurd (apart (h.apart i j p.old q.old p.there q.there (sym own ∙ root-of w h j q.old n x q.there last)))
    ]

still-sessions : (w v : World) → IsFit w → Moves w v → (j : ℕ) (b : Site) (primary : List ℕ) (sent received : Sequence) → slice_get v j ≡ Some b
    → b.role ≡ Following primary sent received → HasPrimary v primary sent received b.sequence
still-sessions w v h moves j b primary sent received bt role =
    let q = moves.back j b bt in
    let s = q.move.session primary sent received role in
    let f = moves.forth s.place s.site s.there in
    let grows = f.move.held j b sent received bt (role ∙ ap (λ (n : List ℕ). Following n sent received) (sym s.name)) in
    record {
      place = s.place;
      site = f.new;
      there = f.there;
      name = f.move.name ∙ s.name;
      prefixes = record {
        applied = s.prefixes.applied;
        arrived = s.prefixes.arrived;
        durable = lists.onward sent (hardened_part s.site) (hardened_part f.new) s.prefixes.durable grows;
      };
    }

pub fit : (w v : World) → IsFit w → Moves w v → IsFit v
fit w v h moves = record {
  apart = still-apart w v h moves;
  each = λ i a at. (moves.back i a at).move.fit;
  agree = still-agree w v h moves;
  cycles = still-cycles w v h moves;
  shipped = still-shipped w v h moves;
  sessions = still-sessions w v h moves;
}
