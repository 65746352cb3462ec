-- Digits and the numbers that they write.
use Rattle.std.proofs.Common.{◌≡◌, ℕ, suc, zero, ◌+◌, ◌-◌, ◌*◌, ◌/◌, ◌%◌, ◌^◌, ◌<◌, ◌≤◌, ◌≢◌, true, nat_le, List, [], ◌∷◌, ◌++◌, length, take, replicate, refl, ap, sym, ◌∙◌, arith, append_assoc, get_or}
use Rattle.std.specs.List.{list_all}
use Rattle.std.specs.Char.{digit_value, is_ascii_digit}
use Rattle.std.specs.Str.Parse.{AllDigits, digits_value_after, digits_value}
use Rattle.std.specs.Fmt.{decimal}
use Rattle.std.proofs.lemmas.List.{append-nil}
use Rattle.std.proofs.Math.Seq.{take-suc}
use Rattle.std.proofs.Math.Nat.{pow-succ', pow-le-pow_right}
use Rattle.std.proofs.lemmas.Fmt.{decimal_step_wide, decimal_digit}
use Rattle.std.proofs.lemmas.Int.Digits.{digits_value-lt}
use Rattle.std.proofs.lemmas.Str.Parse.{digit_from_value}
use Rattle.std.proofs.lemmas.Str.{digit_value_digit}
use Rattle.std.proofs.lemmas.Bool.{leb-true, ne_eqb, and_parts}
use Rattle.global_defs.specs.Encoded.{kept, significant}

pub digit_bounds : (c : ℕ) → is_ascii_digit c ≡ true → (48 ≤ c) × (c ≤ 57)
digit_bounds c h = let t = and_parts (nat_le 48 c) (nat_le c 57) h in (leb-true 48 c t.0, leb-true c 57 t.1)

pub are_digits : (ds : List ℕ) → list_all is_ascii_digit ds ≡ true → AllDigits 10 ds
are_digits [] h = tt
are_digits (c ∷ cs) h =
    let t = and_parts (is_ascii_digit c) (list_all is_ascii_digit cs) h in
    let b = digit_bounds c t.0 in
    (omega (arith, digit_value_digit c b), are_digits cs t.1)

-- the value of digits behind others

distribute : (n v p : ℕ) → (n * 10 + v) * p ≡ n * (10 * p) + (0 * 10 + v) * p
distribute n v p = grind arith

pub value_shift : (n : ℕ) (ds : List ℕ) → digits_value_after 10 n ds ≡ n * 10 ^ length ds + digits_value 10 ds
value_shift n [] = omega arith
value_shift n (c ∷ cs) =
    let v = digit_value c in
    let p : ℕ = 10 ^ length cs in
    let q : 10 ^ suc (length cs) ≡ 10 * p = pow-succ' 10 (length cs) in
    omega (arith, value_shift (n * 10 + v) cs, value_shift (0 * 10 + v) cs, distribute n v p, ap (λ x. n * x) q)

pub value_append : (n : ℕ) (xs ys : List ℕ) → digits_value_after 10 n (xs ++ ys) ≡ digits_value_after 10 (digits_value_after 10 n xs) ys
value_append n [] ys = refl
value_append n (c ∷ cs) ys = value_append (n * 10 + digit_value c) cs ys

pub value_joined : (xs ys : List ℕ) → digits_value 10 (xs ++ ys) ≡ digits_value 10 xs * 10 ^ length ys + digits_value 10 ys
value_joined xs ys = value_append 0 xs ys ∙ value_shift (digits_value 10 xs) ys

-- the digits of the value of digits

le_value_after : (n : ℕ) (ds : List ℕ) → n ≤ digits_value_after 10 n ds
le_value_after n [] = omega arith
le_value_after n (c ∷ cs) = omega (arith, le_value_after (n * 10 + digit_value c) cs)

decimal_after : (n : ℕ) (ds : List ℕ) → 0 < n → AllDigits 10 ds → digits_value_after 10 n ds < 10 ^ 64 → decimal (digits_value_after 10 n ds) ≡ decimal n ++ ds
decimal_after n [] some d small = sym (append-nil (decimal n))
decimal_after n (c ∷ cs) some d small =
    let m : ℕ = n * 10 + digit_value c in
    let k = digit_value_digit c (digit_from_value c d.0) in
    let front : m / 10 ≡ n = omega (arith, d.0) in
    let end : 48 + m % 10 ≡ c = omega (arith, d.0) in
    decimal_after m cs (omega arith) d.1 small
    ∙ ap (λ x. x ++ cs) (decimal_step_wide m (omega arith) (omega (arith, le_value_after m cs)) ∙ (λ i. decimal (front i) ++ (end i ∷ [])))
    ∙ append_assoc (decimal n) (c ∷ []) cs

few_below : (n m : ℕ) → n < 10 ^ m → m ≤ 40 → n < 10 ^ 64
few_below n m small few = let p : 10 ^ m ≤ 10 ^ 40 = pow-le-pow_right {n = 10} (omega arith) few in omega arith

pub value_few : (ds : List ℕ) → AllDigits 10 ds → length ds ≤ 40 → digits_value 10 ds < 10 ^ 64
value_few ds all few = few_below (digits_value 10 ds) (length ds) (digits_value-lt 10 ds all) few

-- digits that don't begin with 0
pub decimal_value : (d : ℕ) (ds : List ℕ) → d ≢ 48 → AllDigits 10 (d ∷ ds) → length ds < 40 → decimal (digits_value 10 (d ∷ ds)) ≡ d ∷ ds
decimal_value d ds lead all few =
    let k = digit_value_digit d (digit_from_value d all.0) in
    let is : 48 + (0 * 10 + digit_value d) ≡ d = omega arith in
    decimal_after (0 * 10 + digit_value d) ds (omega (arith, digit_from_value d all.0)) all.1 (value_few (d ∷ ds) all (omega arith))
    ∙ ap (λ x. x ++ ds) (decimal_digit (0 * 10 + digit_value d) (omega (arith, all.0)) ∙ ap (λ x. x ∷ []) is)

pub value_positive : (d : ℕ) (ds : List ℕ) → d ≢ 48 → AllDigits 10 (d ∷ ds) → 0 < digits_value 10 (d ∷ ds)
value_positive d ds lead all =
    let k = digit_value_digit d (digit_from_value d all.0) in
    omega (arith, digit_from_value d all.0, le_value_after (0 * 10 + digit_value d) ds)

-- zeros at the end

pub significant_zeros : (n : ℕ) → significant (replicate n 48) ≡ []
significant_zeros zero = refl
significant_zeros (suc n) = ap (kept 48) (significant_zeros n)

pub significant_padded : (ds : List ℕ) (n : ℕ) → significant (ds ++ replicate n 48) ≡ significant ds
significant_padded [] n = significant_zeros n
significant_padded (d ∷ ds) n = ap (kept d) (significant_padded ds n)

pub significant_whole : (ds : List ℕ) (d : ℕ) → d ≢ 48 → significant (ds ++ (d ∷ [])) ≡ ds ++ (d ∷ [])
significant_whole [] d h = rw (ne_eqb d 48 h) refl
significant_whole (c ∷ []) d h = ap (kept c) (significant_whole [] d h)
significant_whole (c ∷ e ∷ more) d h = ap (kept c) (significant_whole (e ∷ more) d h)

drop_last : (ds : List ℕ) (n : ℕ) → 0 < n → n ≤ length ds → take n ds ≡ take (n - 1) ds ++ (get_or ds (n - 1) 0 ∷ [])
drop_last ds n some within = let e : n ≡ suc (n - 1) = omega arith in ap (λ k. take k ds) e ∙ take-suc ds (n - 1) 0 (omega arith)

pub significant_less : (ds : List ℕ) (n : ℕ) → 0 < n → n ≤ length ds → get_or ds (n - 1) 0 ≡ 48 → significant (take (n - 1) ds) ≡ significant (take n ds)
significant_less ds n some within e = sym (ap significant (drop_last ds n some within ∙ ap (λ d. take (n - 1) ds ++ (d ∷ [])) e) ∙ significant_padded (take (n - 1) ds) 1)

pub significant_done : (ds : List ℕ) (n : ℕ) → 0 < n → n ≤ length ds → get_or ds (n - 1) 0 ≢ 48 → take n ds ≡ significant (take n ds)
significant_done ds n some within ne = let e = drop_last ds n some within in e ∙ sym (significant_whole (take (n - 1) ds) (get_or ds (n - 1) 0) ne) ∙ ap significant (sym e)

pub significant_none : (ds : List ℕ) (n : ℕ) → n ≡ 0 → take n ds ≡ significant (take n ds)
significant_none ds n e = rw e refl
