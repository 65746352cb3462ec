-- Worlds at rest, and a site that is made.
use Rattle.std.proofs.Common.{◌≡◌, ◌≢◌, ◌⊎◌, inl, inr, ℕ, List, [], ◌∷◌, ◌++◌, length, Some, None, slice_get, sym, ◌∙◌, ap, subst, arith}
use Rattle.global_defs.specs.Entry.{Stamp, Entry, Sequence}
use Rattle.lineage_defs.specs.Sites.{Down, Primary, Following, Site, World, hardened_part, fresh}
use Rattle.lineage_defs.specs.Lineage.{Agree, HasCycles, IsAmong, IsFitSite, HasPrimary, IsFit}
use Rattle.lineage_defs.specs.Outcomes.{IsAtRest, IsUnused}
use Rattle.resync_core.proofs.Fronts as lists
use Rattle.global_defs.proofs.Lists.{get-push}

pub at-rest : (w : World) → ((i : ℕ) (a : Site) → slice_get w i ≡ Some a → IsAtRest a)
    → ((i j : ℕ) (a b : Site) → slice_get w i ≡ Some a → slice_get w j ≡ Some b → a.name ≡ b.name → i ≡ j)
    → ((i j : ℕ) (a b : Site) → slice_get w i ≡ Some a → slice_get w j ≡ Some b → Agree a.sequence b.sequence)
    → ((i j : ℕ) (a b : Site) → slice_get w i ≡ Some a → slice_get w j ≡ Some b → HasCycles a.name a.cycle b.sequence)
    → IsFit w
at-rest w rest apart agree cycles = record {
  apart = apart;
  each = λ i a at. let r = rest i a at in let size = r.hardened in
      record { within = omega arith; rise = r.rise; history = r.history; few = r.few; reigning = λ stamp serials e. cc (sym r.down ∙ e) };
  agree = agree;
  cycles = cycles;
  shipped = λ i j a b stamp serials at bt other e. let down = (rest i a at).down in cc (sym down ∙ e);
  sessions = λ j b primary sent received bt e. let down = (rest j b bt).down in cc (sym down ∙ e);
}

pub empty : IsFit []
empty = record {
  apart = λ i j a b at. let none : None ≡ Some a = at in cc;
  each = λ i a at. let none : None ≡ Some a = at in cc;
  agree = λ i j a b at. let none : None ≡ Some a = at in cc;
  cycles = λ i j a b at. let none : None ≡ Some a = at in cc;
  shipped = λ i j a b stamp serials at. let none : None ≡ Some a = at in cc;
  sessions = λ j b primary sent received at. let none : None ≡ Some b = at in cc;
}

-- a site of the longer world
found : (w : World) (name : List ℕ) (i : ℕ) (a : Site) → slice_get (w ++ fresh name ∷ []) i ≡ Some a → (slice_get w i ≡ Some a) ⊎ ((i ≡ length w) × (a ≡ fresh name))
found w name i a at = get-push w (fresh name) i a at

no-entry : (name : List ℕ) (a : Site) (n : ℕ) (x : Entry) → a ≡ fresh name → slice_get a.sequence n ≡ Some x → ⊥
no-entry name a n x e is = let none : None ≡ Some x = subst (λ (s : Site). slice_get s.sequence n ≡ Some x) e is in cc

no-primary : (name : List ℕ) (a : Site) (stamp : Stamp) (serials : List ℕ) → a ≡ fresh name → a.role ≡ Primary stamp serials → ⊥
no-primary name a stamp serials e is = let down : Down ≡ Primary stamp serials = subst (λ (s : Site). s.role ≡ Primary stamp serials) e is in cc

no-follower : (name : List ℕ) (a : Site) (primary : List ℕ) (sent received : Sequence) → a ≡ fresh name → a.role ≡ Following primary sent received → ⊥
no-follower name a primary sent received e is = let down : Down ≡ Following primary sent received = subst (λ (s : Site). s.role ≡ Following primary sent received) e is in cc

fit-fresh : (name : List ℕ) → IsFitSite (fresh name)
fit-fresh name = record {
  within = omega arith;
  rise = λ i j d e low first. let none : None ≡ Some d = first in cc;
  history = record { stamps = λ i e is. let none : None ≡ Some e = is in cc; starts = tt; changes = tt };
  few = omega arith;
  reigning = λ stamp serials e. cc;
}

made-apart : (w : World) (name : List ℕ) → IsFit w → IsUnused name w → (i j : ℕ) (a b : Site) → slice_get (w ++ fresh name ∷ []) i ≡ Some a
    → slice_get (w ++ fresh name ∷ []) j ≡ Some b → a.name ≡ b.name → i ≡ j
made-apart w name h unused i j a b at bt same = elim (found w name i a at) [
  | inl p ↦ elim (found w name j b bt) [
    | inl q ↦ h.apart i j a b p q same
    | inr q ↦ absurd ((unused i a p).0 (same ∙ ap (λ (s : Site). s.name) q.1))
  ]
  | inr p ↦ elim (found w name j b bt) [
    | inl q ↦ absurd ((unused j b q).0 (sym same ∙ ap (λ (s : Site). s.name) p.1))
    | inr q ↦ p.0 ∙ sym q.0
  ]
]

made-agree : (w : World) (name : List ℕ) → IsFit w → (i j : ℕ) (a b : Site) → slice_get (w ++ fresh name ∷ []) i ≡ Some a
    → slice_get (w ++ fresh name ∷ []) j ≡ Some b → Agree a.sequence b.sequence
made-agree w name h i j a b at bt n x y is has same = elim (found w name i a at) [
  | inl p ↦ elim (found w name j b bt) [
    | inl q ↦ h.agree i j a b p q n x y is has same
    | inr q ↦ absurd (no-entry name b n y q.1 has)
  ]
  | inr p ↦ absurd (no-entry name a n x p.1 is)
]

made-cycles : (w : World) (name : List ℕ) → IsFit w → IsUnused name w → (i j : ℕ) (a b : Site) → slice_get (w ++ fresh name ∷ []) i ≡ Some a
    → slice_get (w ++ fresh name ∷ []) j ≡ Some b → HasCycles a.name a.cycle b.sequence
made-cycles w name h unused i j a b at bt n x is root = elim (found w name j b bt) [
  | inl q ↦ elim (found w name i a at) [
    | inl p ↦ h.cycles i j a b p q n x is root
    | inr p ↦ absurd ((unused j b q).1 n x is (root ∙ ap (λ (s : Site). s.name) p.1))
  ]
  | inr q ↦ absurd (no-entry name b n x q.1 is)
]

made-shipped : (w : World) (name : List ℕ) → IsFit w → (i j : ℕ) (a b : Site) (stamp : Stamp) (serials : List ℕ) → slice_get (w ++ fresh name ∷ []) i ≡ Some a
    → slice_get (w ++ fresh name ∷ []) j ≡ Some b → i ≢ j → a.role ≡ Primary stamp serials → IsAmong stamp b.sequence (hardened_part a)
made-shipped w name h i j a b stamp serials at bt other role n x is its = elim (found w name i a at) [
  | inl p ↦ elim (found w name j b bt) [
    | inl q ↦ h.shipped i j a b stamp serials p q other role n x is its
    | inr q ↦ absurd (no-entry name b n x q.1 is)
  ]
  | inr p ↦ absurd (no-primary name a stamp serials p.1 role)
]

made-sessions : (w : World) (name : List ℕ) → IsFit w → (j : ℕ) (b : Site) (primary : List ℕ) (sent received : Sequence) → slice_get (w ++ fresh name ∷ []) j ≡ Some b
    → b.role ≡ Following primary sent received → HasPrimary (w ++ fresh name ∷ []) primary sent received b.sequence
made-sessions w name h j b primary sent received bt role = elim (found w name j b bt) [
  | inl q ↦
      let s = h.sessions j b primary sent received q role in
      record {
        place = s.place;
        site = s.site;
        there = lists.prefix-get w (w ++ fresh name ∷ []) s.place s.site (lists.longer w (fresh name ∷ [])) s.there;
        name = s.name;
        prefixes = s.prefixes;
      }
  | inr q ↦ absurd (no-follower name b primary sent received q.1 role)
]

pub made : (w : World) (name : List ℕ) → IsFit w → IsUnused name w → IsFit (w ++ fresh name ∷ [])
made w name h unused = record {
  apart = made-apart w name h unused;
  each = λ i a at. elim (found w name i a at) [
    | inl p ↦ h.each i a p
    | inr p ↦ subst IsFitSite (sym p.1) (fit-fresh name)
  ];
  agree = made-agree w name h;
  cycles = made-cycles w name h unused;
  shipped = made-shipped w name h;
  sessions = made-sessions w name h;
}
