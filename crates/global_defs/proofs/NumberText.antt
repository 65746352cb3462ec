-- A number's text has its value, and where it is a canonical numeral the number has at most 36 digits when it is taken 10 ^ 18 times.
use Rattle.std.proofs.Common.{◌≡◌, ℕ, ℤ, pos, negsuc, suc, zero, ◌+◌, ◌-◌, ◌*◌, ◌/◌, ◌%◌, ◌^◌, ◌<◌, ◌≤◌, ◌≢◌, true, false, cond, nat_le, List, [], ◌∷◌, ◌++◌, length, drop, replicate, refl, ap, sym, subst, ◌∙◌, arith, count_by, inl, inr, ◌==◌}
use Rattle.std.specs.Char.{is_ascii_digit, digit_value}
use Rattle.std.specs.Str.Parse.{AllDigits, digits_value}
use Rattle.std.specs.Fmt.{decimal, digits, digits_onto, digit_glyph}
use Rattle.std.proofs.lemmas.List.Sums.{sum_by-append}
use Rattle.std.proofs.lemmas.Fmt.{decimal_is_IsNumeral_wide, length-decimal-le_wide}
use Rattle.std.proofs.lemmas.Int.Digits.{digits_value-lt}
use Rattle.std.proofs.lemmas.Bool.{and_parts, ne_eqb, eqb-true, leb-true, cases_Bool, cases_lt, lt-ltb, le-leb}
use Rattle.std.proofs.Math.Nat.{pow-succ', pow-le-pow_right}
use Rattle.global_defs.specs.Numeral.{is_numeral, is_number}
use Rattle.global_defs.specs.Encoded.{kept, significant}
use Rattle.global_defs.specs.NodeText.{whole_digits, fraction_digits, magnitude_text, number_text}
use Rattle.global_defs.proofs.Digits.{value_shift}

pub power_le : (i j : ℕ) → i ≤ j → 10 ^ i ≤ 10 ^ j
power_le i j h = pow-le-pow_right {n = 10} (omega arith) h

-- a number with few digits is small

glyph_digit : (m : ℕ) → is_ascii_digit (digit_glyph false (m % 10)) ≡ true
glyph_digit m =
    let small : m % 10 < 10 = omega arith in
    rw (lt-ltb (m % 10) 10 small, le-leb 48 (48 + m % 10) (omega arith), le-leb (48 + m % 10) 57 (omega arith)) refl

count_cons : (d : ℕ) (ds : List ℕ) → is_ascii_digit d ≡ true → count_by is_ascii_digit (d ∷ ds) ≡ 1 + count_by is_ascii_digit ds
count_cons d ds h = rw (sum_by-append (λ x. cond (is_ascii_digit x) 1 0) (d ∷ []) ds, h) refl

onto_keeps : (k m : ℕ) (acc : List ℕ) → count_by is_ascii_digit acc ≤ count_by is_ascii_digit (digits_onto k 10 false m acc)
onto_keeps zero m acc = omega arith
onto_keeps (suc k) m acc =
    let g : ℕ = digit_glyph false (m % 10) in
    let one = count_cons g acc (glyph_digit m) in
    elim (cases_Bool (m / 10 == 0)) [
      | inl e ↦ rw e (omega arith)
      | inr e ↦ rw e (omega (arith, onto_keeps k (m / 10) (g ∷ acc)))
    ]

onto_many : (k j m : ℕ) (acc : List ℕ) → j < k → 10 ^ j ≤ m → j + 1 + count_by is_ascii_digit acc ≤ count_by is_ascii_digit (digits_onto k 10 false m acc)
onto_many zero j m acc h low = absurd (omega arith)
onto_many (suc k) zero m acc h low =
    let g : ℕ = digit_glyph false (m % 10) in
    let one = count_cons g acc (glyph_digit m) in
    elim (cases_Bool (m / 10 == 0)) [
      | inl e ↦ rw e (omega arith)
      | inr e ↦ rw e (omega (arith, onto_keeps k (m / 10) (g ∷ acc)))
    ]
onto_many (suc k) (suc j) m acc h low =
    let g : ℕ = digit_glyph false (m % 10) in
    let one = count_cons g acc (glyph_digit m) in
    let p : 10 ^ suc j ≡ 10 * 10 ^ j = pow-succ' 10 j in
    let more : 10 ^ j ≤ m / 10 = omega arith in
    let some : m / 10 ≢ 0 = λ e. omega (arith, power_le 0 j (omega arith)) in
    rw (ne_eqb (m / 10) 0 some) (omega (arith, onto_many k j (m / 10) (g ∷ acc) (omega arith) more))

count_decimal : (m : ℕ) → 10 ^ 18 ≤ m → 19 ≤ count_by is_ascii_digit (decimal m)
unfolding digits
count_decimal m low = onto_many 64 18 m [] (omega arith) low

count_whole : (m : ℕ) → 10 ^ 18 ≤ m → 19 ≤ count_by is_ascii_digit (whole_digits m)
count_whole m low = rw (ne_eqb m 0 (λ e. omega arith)) (count_decimal m low)

count_signless : (n : ℕ) → count_by is_ascii_digit (magnitude_text n) ≤ 18 → n < 10 ^ 36
count_signless n few = elim (cases_lt (n / 10 ^ 18) (10 ^ 18)) [
  | inr low ↦ absurd (omega (arith, count_whole (n / 10 ^ 18) low, sum_by-append (λ x. cond (is_ascii_digit x) 1 0) (whole_digits (n / 10 ^ 18)) (fraction_digits (n % 10 ^ 18))))
  | inl high ↦ omega arith
]

few_digits : (s : List ℕ) → is_number s ≡ true → count_by is_ascii_digit s ≤ 18
few_digits s h = leb-true (count_by is_ascii_digit s) 18 (and_parts (is_numeral s) (nat_le (count_by is_ascii_digit s) 18) h).1

count_minus : (s : List ℕ) → count_by is_ascii_digit (45 ∷ s) ≡ count_by is_ascii_digit s
count_minus s = refl

-- 10 ^ 18 times a number without its sign
abbrev pub unsigned : ℤ → ℕ
unsigned (pos n) = n
unsigned (negsuc n) = suc n

pub number_small : (x : ℤ) → is_number (number_text x) ≡ true → unsigned x < 10 ^ 36
number_small (pos zero) h = omega arith
number_small (pos (suc n)) h = count_signless (suc n) (few_digits (magnitude_text (suc n)) h)
number_small (negsuc n) h = count_signless (suc n) (omega (arith, few_digits (45 ∷ magnitude_text (suc n)) h, count_minus (magnitude_text (suc n))))

-- the digits of a number

pub record IsDecimal (n : ℕ) (ds : List ℕ) : Type 0 where
  pub digits : AllDigits 10 ds
  pub value : digits_value 10 ds ≡ n
  pub some : 0 < length ds

pub decimal_is : (n : ℕ) → n < 10 ^ 64 → IsDecimal n (decimal n)
decimal_is n small = let d = decimal_is_IsNumeral_wide n small in record { digits = d.0.1; value = d.1; some = d.0.0 }

pub decimal_short : (n : ℕ) → n < 10 ^ 36 → length (decimal n) ≤ 36
decimal_short n small = length-decimal-le_wide 36 n (omega arith) small (omega arith)

-- zeros back at the end of digits

pub record IsPadded (ds : List ℕ) : Type 0 where
  pub fits : length (significant ds) ≤ length ds
  pub same : significant ds ++ replicate (length ds - length (significant ds)) 48 ≡ ds

kept_padded : (d : ℕ) (ds more : List ℕ) → length more ≤ length ds → more ++ replicate (length ds - length more) 48 ≡ ds
    → (length (kept d more) ≤ suc (length ds)) × (kept d more ++ replicate (suc (length ds) - length (kept d more)) 48 ≡ d ∷ ds)
kept_padded d ds [] fits same = elim (cases_Bool (d == 48)) [
  | inl e ↦ rw e (omega arith, let k : suc (length ds) - 0 ≡ suc (length ds - 0) = omega arith in ap (λ n. replicate n 48) k ∙ (λ i. sym (eqb-true d 48 e) i ∷ same i))
  | inr e ↦ rw e (omega arith, let k : suc (length ds) - 1 ≡ length ds - 0 = omega arith in ap (λ n. d ∷ replicate n 48) k ∙ ap (λ x. d ∷ x) same)
]
kept_padded d ds (e ∷ more) fits same =
    let k : suc (length ds) - suc (suc (length more)) ≡ length ds - suc (length more) = omega arith in
    (omega arith, ap (λ n. d ∷ e ∷ (more ++ replicate n 48)) k ∙ ap (λ x. d ∷ x) same)

pub padded_back : (ds : List ℕ) → IsPadded ds
padded_back [] = record { fits = omega arith; same = refl }
padded_back (d ∷ ds) = let p = padded_back ds in let q = kept_padded d ds (significant ds) p.fits p.same in record { fits = q.0; same = q.1 }

first_digits : (xs ys : List ℕ) → AllDigits 10 (xs ++ ys) → AllDigits 10 xs
first_digits [] ys h = tt
first_digits (x ∷ xs) ys h = (h.0, first_digits xs ys h.1)

pub significant_digits : (ds : List ℕ) → AllDigits 10 ds → AllDigits 10 (significant ds)
significant_digits ds h = let p = padded_back ds in first_digits (significant ds) _ (subst (AllDigits 10) (sym p.same) h)

-- the 18 digits behind the point

pub record IsFraction (n : ℕ) (ds : List ℕ) : Type 0 where
  pub digits : AllDigits 10 ds
  pub value : digits_value 10 ds ≡ n
  pub length_is : length ds ≡ 18

fraction_from : (n : ℕ) (ds : List ℕ) → n < 10 ^ 18 → IsDecimal (10 ^ 18 + n) ds → length ds ≤ 19 → IsFraction n (drop 1 ds)
fraction_from n [] small d short = absurd (omega (arith, d.some))
fraction_from n (c ∷ cs) small d short =
    let below = digits_value-lt 10 (c ∷ cs) d.digits in
    let len : length cs ≡ 18 = elim (cases_lt (length cs) 18) [
      | inl less ↦ absurd (omega (arith, d.value, below, power_le (suc (length cs)) 18 (omega arith)))
      | inr most ↦ omega arith
    ] in
    let rest = digits_value-lt 10 cs d.digits.1 in
    let whole = value_shift (0 * 10 + digit_value c) cs in
    record { digits = d.digits.1; value = omega (arith, d.value, below, whole, rest, ap (λ k. 10 ^ k) len, ap (λ k. (0 * 10 + digit_value c) * 10 ^ k) len); length_is = len }

pub fraction_is : (n : ℕ) → n < 10 ^ 18 → IsFraction n (drop 1 (decimal (10 ^ 18 + n)))
fraction_is n small = fraction_from n (decimal (10 ^ 18 + n)) small (decimal_is (10 ^ 18 + n) (omega arith)) (length-decimal-le_wide 19 (10 ^ 18 + n) (omega arith) (omega arith) (omega arith))
