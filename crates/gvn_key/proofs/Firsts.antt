-- The first byte that passes a test, by those before it.
use Rattle.std.proofs.Common.{◌≡◌, ℕ, ◌+◌, ◌<◌, ◌≤◌, cond, nat_lt, Bool, true, false, List, length, Some, None, position, slice_index, sym, ap, ◌∙◌, subst, arith, inl, inr}
use Rattle.std.proofs.lemmas.Bool.{cases_lt, lt-ltb, le-ltb, cond-true, cond-false}
use Rattle.std.proofs.lemmas.List.Sums.{position_or_len_is}
use Rattle.gvn_key.specs.Places.{AllFail, IsFirstIn}

pub first_found : (p : ℕ → Bool) (xs : List ℕ) (i : ℕ) → i < length xs → AllFail p xs 0 i → p (slice_index xs i) ≡ true → Some i ≡ position p xs
first_found p xs i inside before here =
    let place = position_or_len_is p xs i 0 (omega (arith, inside)) (λ k lt. before k (omega arith) lt) (λ _. here) in
    sym (ap (λ k. cond (nat_lt k (length xs)) (Some k) None) place ∙ cond-true _ _ _ (lt-ltb i (length xs) inside))

pub none_found : (p : ℕ → Bool) (xs : List ℕ) (i : ℕ) → i ≡ length xs → AllFail p xs 0 i → None ≡ position p xs
none_found p xs i all before =
    let place = position_or_len_is p xs i 0 (omega (arith, all)) (λ k lt. before k (omega arith) lt) (λ inside. absurd (omega (arith, all, inside))) in
    sym (ap (λ k. cond (nat_lt k (length xs)) (Some k) None) place ∙ cond-false _ _ _ (le-ltb i (length xs) (omega (arith, all))))

-- none passes up to a place, and none of some more
pub none_more : (p : ℕ → Bool) (xs : List ℕ) (at n run : ℕ) → AllFail p xs 0 at → IsFirstIn p xs at n run → AllFail p xs 0 (at + run)
none_more p xs at n run before r k from to = elim (cases_lt k at) [ inl early ↦ before k from early | inr late ↦ r.fail k late to ]

pub one_more : (p : ℕ → Bool) (xs : List ℕ) (at : ℕ) → AllFail p xs 0 at → p (slice_index xs at) ≡ false → AllFail p xs 0 (at + 1)
one_more p xs at before here k from to = elim (cases_lt k at) [ inl early ↦ before k from early | inr late ↦ let same : at ≡ k = omega arith in subst (λ j. p (slice_index xs j) ≡ false) same here ]

pub all_more : (p : ℕ → Bool) (xs : List ℕ) (at n run : ℕ) → AllFail p xs 0 at → IsFirstIn p xs at n run → n ≤ run → AllFail p xs 0 (at + n)
all_more p xs at n run before r long k from to = none_more p xs at n run before r k from (omega arith)
