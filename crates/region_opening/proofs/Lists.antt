-- Regions in a list.
use Rattle.std.proofs.Common.{◌≡◌, ◌⊎◌, inl, inr, ℕ, zero, suc, ◌<◌, List, [], ◌∷◌, ◌++◌, length, map, take, drop, ◌-◌, slice_get, Some, None, refl, sym, ◌∙◌, ap, arith, length-drop}
use Rattle.std.specs.Prelude.{unwrap_or, slice_index_or}
use Rattle.std.proofs.lemmas.Option.{get_or_from_slice_get}
use Rattle.std.proofs.lemmas.List.{take_all}
use Rattle.region_store.proofs.Lists.{there}

-- all elements from a place on
pub behind : {X : Type 0} (xs : List X) (n : ℕ) → take (length xs - n) (drop n xs) ≡ drop n xs
behind xs n = take_all (length xs - n) (drop n xs) (omega (arith, length-drop n xs))

-- an element of a list with one more is one of the list, or the last
pub of_more : {X : Type 0} (xs : List X) (x : X) (r : ℕ) (y : X) → slice_get (xs ++ x ∷ []) r ≡ Some y → (slice_get xs r ≡ Some y) ⊎ ((r ≡ length xs) × (y ≡ x))
of_more [] x zero y is = inr (refl, ap (λ o. unwrap_or o y) (sym is))
of_more [] x (suc r) y is = let gone : None ≡ Some y = is in cc
of_more (z ∷ zs) x zero y is = inl is
of_more (z ∷ zs) x (suc r) y is = elim (of_more zs x r y is) [
  | inl low ↦ inl low
  | inr last ↦ inr (ap suc last.0, last.1)
]

-- an element of a list that was mapped
pub of_mapped : {X Y : Type 0} (f : X → Y) (xs : List X) (r : ℕ) (y : Y) → slice_get (map f xs) r ≡ Some y → (x : X) × (slice_get xs r ≡ Some x) × (f x ≡ y)
of_mapped f [] r y is = let gone : None ≡ Some y = is in cc
of_mapped f (x ∷ xs) zero y is = (x, refl, ap (λ o. unwrap_or o (f x)) is)
of_mapped f (x ∷ xs) (suc r) y is = of_mapped f xs r y is

pub mapped_at : {X Y : Type 0} (f : X → Y) (xs : List X) (r : ℕ) (x : X) → slice_get xs r ≡ Some x → slice_get (map f xs) r ≡ Some (f x)
mapped_at f [] r x is = let gone : None ≡ Some x = is in cc
mapped_at f (y ∷ ys) zero x is = ap (λ o. Some (f (unwrap_or o y))) is
mapped_at f (y ∷ ys) (suc r) x is = mapped_at f ys r x is

-- the element at a place that there is
pub at_place : {X : Type 0} (xs : List X) (r : ℕ) (d : X) → r < length xs → slice_get xs r ≡ Some (slice_index_or xs r d)
at_place xs r d low = let x = there xs r low in x.1 ∙ ap (λ y. Some y) (sym (get_or_from_slice_get xs r x.0 d x.1))
