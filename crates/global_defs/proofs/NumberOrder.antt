-- Numbers compare as their counts of digits do, and then as their digits do.
use Rattle.std.proofs.Common.{◌≡◌, ℕ, suc, zero, ◌+◌, ◌-◌, ◌*◌, ◌^◌, ◌<◌, ◌≤◌, ◌==◌, List, [], ◌∷◌, length, refl, ap, sym, ◌∙◌, arith, inl, inr}
use Rattle.std.specs.Ordering.{nat_cmp, ordering_then}
use Rattle.std.specs.Cmp.Lexicographic.{slice_cmp}
use Rattle.std.specs.Char.{digit_value}
use Rattle.std.specs.Str.Parse.{AllDigits, digits_value_after}
use Rattle.std.specs.Fmt.{decimal}
use Rattle.std.proofs.lemmas.Bool.{cases_Bool, cases_lt, eqb-true, eqb-false}
use Rattle.std.proofs.lemmas.Fmt.{length-decimal-le_wide}
use Rattle.std.proofs.lemmas.Int.Digits.{digits_value-lt}
use Rattle.std.proofs.lemmas.Str.{digit_value_digit}
use Rattle.std.proofs.lemmas.Str.Parse.{digit_from_value}
use Rattle.global_defs.specs.Encoded.{kept, significant}
use Rattle.global_defs.proofs.NumberText.{power_le, decimal_is}
use Rattle.global_defs.proofs.Ranks.{below, same, above, ranks, less, equal, greater, agree, then_equal, then_then}

-- digits as many as others, behind numbers

next_digit : (n m d e : ℕ) → digit_value d < 10 → digit_value e < 10 → nat_cmp (n * 10 + digit_value d) (m * 10 + digit_value e) ≡ ordering_then (nat_cmp n m) (nat_cmp d e)
next_digit n m d e h g =
    let p = digit_value_digit d (digit_from_value d h) in
    let q = digit_value_digit e (digit_from_value e g) in
    let r = digit_from_value d h in
    let t = digit_from_value e g in
    elim (ranks n m) [
      | below l o ↦ rw o (less (n * 10 + digit_value d) (m * 10 + digit_value e) (omega arith))
      | same l o ↦ rw o (agree d e (n * 10 + digit_value d) (m * 10 + digit_value e) (λ x. omega (arith, r, t)) (λ x. omega (arith, r, t)) (λ x. omega (arith, r, t)))
      | above l o ↦ rw o (greater (n * 10 + digit_value d) (m * 10 + digit_value e) (omega arith))
    ]

as_many_after : (n m : ℕ) (ds es : List ℕ) → AllDigits 10 ds → AllDigits 10 es → length ds ≡ length es
    → nat_cmp (digits_value_after 10 n ds) (digits_value_after 10 m es) ≡ ordering_then (nat_cmp n m) (slice_cmp nat_cmp ds es)
as_many_after n m [] [] h g e = sym (then_equal (nat_cmp n m))
as_many_after n m [] (y ∷ es) h g e = absurd (omega arith)
as_many_after n m (d ∷ ds) [] h g e = absurd (omega arith)
as_many_after n m (d ∷ ds) (y ∷ es) h g e =
    as_many_after (n * 10 + digit_value d) (m * 10 + digit_value y) ds es h.1 g.1 (omega arith)
    ∙ ap (λ o. ordering_then o (slice_cmp nat_cmp ds es)) (next_digit n m d y h.0 g.0)
    ∙ then_then (nat_cmp n m) (nat_cmp d y) (slice_cmp nat_cmp ds es)

-- fewer digits, where the first isn't 0

at_least : (n : ℕ) → 0 < n → n < 10 ^ 64 → (k : ℕ) → length (decimal n) ≡ suc k → 10 ^ k ≤ n
at_least n some small zero e = omega arith
at_least n some small (suc k) e = elim (cases_lt n (10 ^ suc k)) [
  | inl h ↦ absurd (omega (arith, length-decimal-le_wide (suc k) n (omega arith) h small))
  | inr h ↦ h
]

fewer : (n m : ℕ) → n < 10 ^ 64 → 0 < m → m < 10 ^ 64 → length (decimal n) < length (decimal m) → n < m
fewer n m small some tiny h =
    let d = decimal_is n small in
    let k : ℕ = length (decimal m) - 1 in
    let low : 10 ^ k ≤ m = at_least m some tiny k (omega arith) in
    let high = digits_value-lt 10 (decimal n) d.digits in
    omega (arith, d.value, high, low, power_le (length (decimal n)) k (omega arith))

-- positive numbers compare as their counts of digits, and then their digits
pub numbers_ordered : (n m : ℕ) → 0 < n → 0 < m → n < 10 ^ 64 → m < 10 ^ 64
    → nat_cmp n m ≡ ordering_then (nat_cmp (length (decimal n)) (length (decimal m))) (slice_cmp nat_cmp (decimal n) (decimal m))
numbers_ordered n m some one small tiny =
    let d = decimal_is n small in
    let f = decimal_is m tiny in
    elim (ranks (length (decimal n)) (length (decimal m))) [
      | below h e ↦ rw e (less n m (fewer n m small one tiny h))
      | same h e ↦ rw e ((λ i. nat_cmp (sym d.value i) (sym f.value i)) ∙ as_many_after 0 0 (decimal n) (decimal m) d.digits f.digits h)
      | above h e ↦ rw e (greater n m (fewer m n tiny some small h))
    ]

-- the zeros at the end of as many digits don't count

both_kept : (d e : ℕ) (xs ys ds es : List ℕ) → 48 ≤ d → 48 ≤ e → slice_cmp nat_cmp xs ys ≡ slice_cmp nat_cmp ds es
    → slice_cmp nat_cmp (kept d xs) (kept e ys) ≡ ordering_then (nat_cmp d e) (slice_cmp nat_cmp ds es)
both_kept d e [] [] ds es h g o = elim (cases_Bool (d == 48)) [
  | inl p ↦ elim (cases_Bool (e == 48)) [
    | inl q ↦ rw (p, q, equal d e (eqb-true d 48 p ∙ sym (eqb-true e 48 q))) o
    | inr q ↦ rw (p, q, less d e (omega (arith, eqb-true d 48 p, eqb-false e 48 q))) refl
  ]
  | inr p ↦ elim (cases_Bool (e == 48)) [
    | inl q ↦ rw (p, q, greater d e (omega (arith, eqb-false d 48 p, eqb-true e 48 q))) refl
    | inr q ↦ rw (p, q) (ap (ordering_then (nat_cmp d e)) o)
  ]
]
both_kept d e [] (y ∷ ys) ds es h g o = elim (cases_Bool (d == 48)) [
  | inl p ↦ elim (ranks d e) [
    | below l k ↦ rw (p, k) refl
    | same l k ↦ rw (p, k) o
    | above l k ↦ absurd (omega (arith, eqb-true d 48 p))
  ]
  | inr p ↦ rw p (ap (ordering_then (nat_cmp d e)) o)
]
both_kept d e (x ∷ xs) [] ds es h g o = elim (cases_Bool (e == 48)) [
  | inl p ↦ elim (ranks d e) [
    | below l k ↦ absurd (omega (arith, eqb-true e 48 p))
    | same l k ↦ rw (p, k) o
    | above l k ↦ rw (p, k) refl
  ]
  | inr p ↦ rw p (ap (ordering_then (nat_cmp d e)) o)
]
both_kept d e (x ∷ xs) (y ∷ ys) ds es h g o = ap (ordering_then (nat_cmp d e)) o

pub significant_ordered : (ds es : List ℕ) → AllDigits 10 ds → AllDigits 10 es → length ds ≡ length es → slice_cmp nat_cmp (significant ds) (significant es) ≡ slice_cmp nat_cmp ds es
significant_ordered [] [] h g e = refl
significant_ordered [] (y ∷ es) h g e = absurd (omega arith)
significant_ordered (d ∷ ds) [] h g e = absurd (omega arith)
significant_ordered (d ∷ ds) (y ∷ es) h g e =
    both_kept d y (significant ds) (significant es) ds es (omega (arith, digit_from_value d h.0)) (omega (arith, digit_from_value y g.0)) (significant_ordered ds es h.1 g.1 (omega arith))
