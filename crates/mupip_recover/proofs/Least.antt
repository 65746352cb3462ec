-- The least of what is still to come.
use Rattle.std.proofs.Common.{◌≡◌, ℕ, zero, suc, ◌≤◌, ◌<◌, min, nat_le, true, false, List, [], ◌∷◌, ◌++◌, length, get_or, refl, ap, arith}
use Rattle.std.specs.List.{AllByRecursion}
use Rattle.std.specs.List.Sorted.{IsNonDecreasing}
use Rattle.mupip_recover.specs.Minima.{lesser, first_of, minima, up_to}

-- none of these is less than the one before it, the first not less than this
abbrev pub NoneLess : ℕ → List ℕ → Type 0
NoneLess low [] = Unit {0}
NoneLess low (x ∷ xs) = (low ≤ x) × NoneLess x xs

none_less-at : (low : ℕ) (xs : List ℕ) (j d : ℕ) → NoneLess low xs → j < length xs → low ≤ get_or xs j d
none_less-at low [] j d h within = absurd (omega arith)
none_less-at low (x ∷ xs) zero d h within = h.0
none_less-at low (x ∷ xs) (suc j) d h within = omega (arith, none_less-at x xs j d h.1 (omega arith), h.0)

pub in_order : (low : ℕ) (xs : List ℕ) → NoneLess low xs → IsNonDecreasing xs
in_order low [] h i j d le within = absurd (omega arith)
in_order low (x ∷ xs) h zero zero d le within = omega arith
in_order low (x ∷ xs) h zero (suc j) d le within = none_less-at x xs j d h.1 (omega arith)
in_order low (x ∷ xs) h (suc i) zero d le within = absurd (omega arith)
in_order low (x ∷ xs) h (suc i) (suc j) d le within = in_order x xs h.1 i j d (omega arith) (omega arith)

lesser_less : (x : ℕ) (ms : List ℕ) → NoneLess 0 ms → NoneLess (lesser x (first_of ms)) ms
lesser_less x [] h = tt
lesser_less x (m ∷ ms) h = (omega arith, h.1)

pub minima_less : (xs : List ℕ) → NoneLess 0 (minima xs)
minima_less [] = tt
minima_less (x ∷ xs) = (omega arith, lesser_less x (minima xs) (minima_less xs))

pub up_to-point : (limit : ℕ) (xs : List ℕ) (i : ℕ) → i ≤ length xs → ((k d : ℕ) → 0 ≤ k → k < i → nat_le (get_or xs k d) limit ≡ true)
    → ((k d : ℕ) → i ≤ k → k < length xs → nat_le (get_or xs k d) limit ≡ false) → i ≡ up_to limit xs
up_to-point limit [] i bound below above = omega arith
up_to-point limit (x ∷ xs) zero bound below above =
    let past : nat_le x limit ≡ false = above 0 0 (omega arith) (omega arith) in
    rw past refl
up_to-point limit (x ∷ xs) (suc i) bound below above =
    let here : nat_le x limit ≡ true = below 0 0 (omega arith) (omega arith) in
    rw here (ap suc (up_to-point limit xs i (omega arith) (λ k d low high. below (suc k) d (omega arith) (omega arith)) (λ k d low high. above (suc k) d (omega arith) (omega arith))))

less_from : (low : ℕ) (xs : List ℕ) → ((d : ℕ) → 0 < length xs → low ≤ get_or xs 0 d) → IsNonDecreasing xs → NoneLess low xs
less_from low [] h order = tt
less_from low (x ∷ xs) h order =
    (h 0 (omega arith), less_from x xs (λ d some. order 0 1 d (omega arith) (omega arith)) (λ i j d le within. order (suc i) (suc j) d (omega arith) (omega arith)))

pub none_less : (xs : List ℕ) → IsNonDecreasing xs → NoneLess 0 xs
none_less xs order = less_from 0 xs (λ d some. omega arith) order

-- a value behind that is none less than the others is the least from its place on, and changes nothing before it
pub minima-last : (xs : List ℕ) (n : ℕ) → AllByRecursion (λ x. x ≤ n) xs → minima (xs ++ n ∷ []) ≡ minima xs ++ n ∷ []
minima-last [] n all = refl
minima-last (x ∷ []) n all = let low : min x n ≡ x = omega (arith, all.0) in ap (λ (k : ℕ). k ∷ n ∷ []) low
minima-last (x ∷ y ∷ xs) n all = ap (λ (ms : List ℕ). lesser x (first_of ms) ∷ ms) (minima-last (y ∷ xs) n all.1)
