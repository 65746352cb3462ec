-- Items of lists.
use Rattle.std.proofs.Common.{◌≡◌, ◌⊎◌, inl, inr, ℕ, zero, suc, ◌+◌, ◌≤◌, List, [], ◌∷◌, ◌++◌, length, set, get_or, slice_get, Some, None, refl, ap, arith}

pub get-push : {X : Type 0} (xs : List X) (y : X) (i : ℕ) (x : X) → slice_get (xs ++ y ∷ []) i ≡ Some x → (slice_get xs i ≡ Some x) ⊎ ((i ≡ length xs) × (x ≡ y))
get-push [] y zero x is = let same : Some y ≡ Some x = is in inr (refl, cc)
get-push [] y (suc i) x is = let none : None ≡ Some x = is in cc
get-push (z ∷ xs) y zero x is = inl is
get-push (z ∷ xs) y (suc i) x is = elim (get-push xs y i x is) [
  | inl old ↦ inl old
  | inr last ↦ inr (ap suc last.0, last.1)
]

pub get-append : {X : Type 0} (xs ys : List X) (i : ℕ) (x : X) → slice_get xs i ≡ Some x → slice_get (xs ++ ys) i ≡ Some x
get-append [] ys i x is = let none : None ≡ Some x = is in cc
get-append (z ∷ xs) ys zero x is = is
get-append (z ∷ xs) ys (suc i) x is = get-append xs ys i x is

-- a number that is raised by one
pub at_least : (next : List ℕ) (i k : ℕ) → get_or next i 1 ≤ get_or (set next k (get_or next k 1 + 1)) i 1
at_least [] i k = omega arith
at_least (x ∷ xs) zero zero = omega arith
at_least (x ∷ xs) zero (suc k) = omega arith
at_least (x ∷ xs) (suc i) zero = omega arith
at_least (x ∷ xs) (suc i) (suc k) = at_least xs i k
