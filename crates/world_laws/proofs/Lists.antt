-- Lists: what holds of each element, and elements by their places.
use Rattle.std.proofs.Common.{◌≡◌, ℕ, zero, suc, ◌<◌, List, [], ◌∷◌, ◌++◌, length, take, Some, None, slice_get, arith}
use Rattle.std.specs.List.{AllByRecursion}

pub all-weaker : {X : Type 0} (P Q : X → Type 0) → ((x : X) → P x → Q x) → (xs : List X) → AllByRecursion P xs → AllByRecursion Q xs
all-weaker P Q f [] h = tt
all-weaker P Q f (x ∷ xs) h = (f x h.0, all-weaker P Q f xs h.1)

pub all-front : {X : Type 0} (P : X → Type 0) (n : ℕ) (xs : List X) → AllByRecursion P xs → AllByRecursion P (take n xs)
all-front P zero xs h = tt
all-front P (suc n) [] h = tt
all-front P (suc n) (x ∷ xs) h = (h.0, all-front P n xs h.1)

pub all-push : {X : Type 0} (P : X → Type 0) (xs : List X) (y : X) → AllByRecursion P xs → P y → AllByRecursion P (xs ++ y ∷ [])
all-push P [] y h k = (k, tt)
all-push P (x ∷ xs) y h k = (h.0, all-push P xs y h.1 k)

pub all-get : {X : Type 0} (P : X → Type 0) (xs : List X) (i : ℕ) (x : X) → AllByRecursion P xs → slice_get xs i ≡ Some x → P x
all-get P [] i x h is = let none : None ≡ Some x = is in cc
all-get P (y ∷ xs) zero x h is = let same : Some y ≡ Some x = is in let e : y ≡ x = cc in rw (← e) h.0
all-get P (y ∷ xs) (suc i) x h is = all-get P xs i x h.1 is

pub get-within : {X : Type 0} (xs : List X) (i : ℕ) (x : X) → slice_get xs i ≡ Some x → i < length xs
get-within [] i x is = let none : None ≡ Some x = is in cc
get-within (y ∷ xs) zero x is = omega arith
get-within (y ∷ xs) (suc i) x is = let rest = get-within xs i x is in omega arith
