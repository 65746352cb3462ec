-- A number's text is its canonical numeral: a canonical numeral is the text of its value.
use Rattle.std.proofs.Common.{◌≡◌, ℕ, pos, negsuc, suc, zero, ◌+◌, ◌-◌, ◌*◌, ◌^◌, ◌<◌, ◌≤◌, ◌≢◌, ◌-ℤ◌, true, false, cond, not, ◌&&◌, ◌||◌, nat_le, nat_eq, List, [], ◌∷◌, ◌++◌, length, take, drop, replicate, refl, ap, sym, subst, ◌∙◌, arith, get_or, position, slice_index, Option, Some, None, count_by, inl, inr, add-one, ◌==◌}
use Rattle.std.specs.List.{list_all, fold, starts_with}
use Rattle.std.specs.Char.{is_ascii_digit}
use Rattle.std.specs.Str.Parse.{AllDigits, digits_value}
use Rattle.std.specs.Fmt.{decimal, digits}
use Rattle.std.proofs.lemmas.List.{append-nil, length-replicate}
use Rattle.std.proofs.lemmas.List.Quantifiers.{position-Some}
use Rattle.std.proofs.lemmas.List.Sums.{sum_by-append}
use Rattle.std.proofs.Math.ListN.{length-append}
use Rattle.std.proofs.Math.Seq.{split_at, take-suc, take-length}
use Rattle.std.proofs.lemmas.Int.{ints}
use Rattle.std.proofs.lemmas.Nat.{div-mul-add, mod-mul-add}
use Rattle.std.proofs.lemmas.Int.Digits.{digits_value-lt}
use Rattle.std.proofs.lemmas.Bool.{and_parts, or_cases, ne_eqb, eqb-true, eqb-false, not-true, leb-true, cases_Bool, cases_eq, lt-ltb}
use Rattle.global_defs.specs.Numeral.{is_point, is_whole, is_fraction, is_positive, is_positive_at, is_numeral, is_number, all_digits, digits_at, magnitude, value_of}
use Rattle.global_defs.specs.Encoded.{significant}
use Rattle.global_defs.specs.NodeText.{whole_digits, pointed, fraction_digits, magnitude_text, number_text, sub_bytes}
use Rattle.global_defs.specs.Key.{sub_of}
use Rattle.global_defs.specs.Valid.{is_sub}
use Rattle.global_defs.proofs.Digits.{are_digits, value_shift, value_joined, decimal_value, value_positive, significant_padded, significant_whole}

-- the text of a number from the digits of 10 ^ 18 times it

whole_back : (w : List ℕ) → AllDigits 10 w → get_or w 0 0 ≢ 48 → length w ≤ 40 → whole_digits (digits_value 10 w) ≡ w
whole_back [] all lead few = refl
whole_back (d ∷ ds) all lead few =
    let some = value_positive d ds lead all in
    rw (ne_eqb (digits_value 10 (d ∷ ds)) 0 (λ e. omega arith)) (decimal_value d ds lead all (omega arith))

fraction_back : (p : List ℕ) → AllDigits 10 p → length p ≡ 18 → fraction_digits (digits_value 10 p) ≡ pointed (significant p)
fraction_back p all len =
    let n : 10 ^ 18 + digits_value 10 p ≡ digits_value 10 (49 ∷ p) = omega (arith, value_shift 1 p, ap (λ k. 10 ^ k) len) in
    ap (λ ds. pointed (significant (drop 1 ds))) (ap decimal n ∙ decimal_value 49 p (λ e. omega arith) (omega arith, all) (omega arith))

pub text_back : (w p : List ℕ) → AllDigits 10 w → AllDigits 10 p → get_or w 0 0 ≢ 48 → length w ≤ 40 → length p ≡ 18
    → magnitude_text (digits_value 10 (w ++ p)) ≡ w ++ pointed (significant p)
text_back w p digits more lead few len =
    let a : ℕ = digits_value 10 w in
    let b : ℕ = digits_value 10 p in
    let small : b < 10 ^ 18 = omega (arith, digits_value-lt 10 p more, ap (λ k. 10 ^ k) len) in
    let whole : digits_value 10 (w ++ p) ≡ a * 10 ^ 18 + b = value_joined w p ∙ ap (λ k. a * 10 ^ k + b) len in
    ap magnitude_text whole
    ∙ (λ i. whole_digits (div-mul-add a (10 ^ 18) b small i) ++ fraction_digits (mod-mul-add a (10 ^ 18) b small i))
    ∙ (λ i. whole_back w digits lead few i ++ fraction_back p more len i)

-- the digits before and behind the point of a numeral without a sign
pub record IsParts (bs w f : List ℕ) : Type 0 where
  pub text : bs ≡ w ++ pointed f
  pub digits : digits_at bs (position is_point bs) ≡ all_digits w f
  pub whole : AllDigits 10 w
  pub fraction : AllDigits 10 f
  pub lead : get_or w 0 0 ≢ 48
  pub last : significant f ≡ f
  pub few : length w + length f ≤ 18
  pub some : 0 < length w + length f

pub count_from : (n : ℕ) (ds : List ℕ) → list_all is_ascii_digit ds ≡ true → fold (λ a x. a + cond (is_ascii_digit x) 1 0) n ds ≡ n + length ds
count_from n [] h = omega arith
count_from n (c ∷ cs) h =
    let t = and_parts (is_ascii_digit c) (list_all is_ascii_digit cs) h in
    rw t.0 (omega (arith, count_from (n + 1) cs t.1))

pub count_digits : (ds : List ℕ) → list_all is_ascii_digit ds ≡ true → count_by is_ascii_digit ds ≡ length ds
count_digits ds h = omega (arith, count_from 0 ds h)

some_digits : (ds : List ℕ) → not (length ds == 0) ≡ true → 0 < length ds
some_digits ds h = omega (arith, eqb-false (length ds) 0 (not-true (length ds == 0) h))

-- digits that don't begin with 0
record IsWholePart (w : List ℕ) : Type 0 where
  pub digits : AllDigits 10 w
  pub lead : get_or w 0 0 ≢ 48
  pub count : count_by is_ascii_digit w ≡ length w

whole_part : (w : List ℕ) → is_whole w ≡ true → IsWholePart w × (0 < length w)
whole_part w h =
    let a = and_parts (list_all is_ascii_digit w && not (length w == 0)) (not (slice_index w 0 == 48)) h in
    let b = and_parts (list_all is_ascii_digit w) (not (length w == 0)) a.0 in
    (record { digits = are_digits w b.0; lead = eqb-false (get_or w 0 0) 48 (not-true (get_or w 0 0 == 48) a.1); count = count_digits w b.0 }, some_digits w b.1)

-- digits that don't end with 0
record IsFractionPart (f : List ℕ) : Type 0 where
  pub digits : AllDigits 10 f
  pub last : significant f ≡ f
  pub count : count_by is_ascii_digit f ≡ length f
  pub some : 0 < length f

ends_well : (f : List ℕ) → 0 < length f → get_or f (length f - 1) 0 ≢ 48 → significant f ≡ f
ends_well f some last =
    let n : ℕ = length f - 1 in
    let all : suc n ≡ length f = omega arith in
    let split : f ≡ take n f ++ (get_or f n 0 ∷ []) = sym (ap (λ k. take k f) all ∙ take-length f) ∙ take-suc f n 0 (omega arith) in
    ap significant split ∙ significant_whole (take n f) (get_or f n 0) last ∙ sym split

fraction_part : (f : List ℕ) → is_fraction f ≡ true → IsFractionPart f
fraction_part f h =
    let a = and_parts (list_all is_ascii_digit f && not (length f == 0)) (not (slice_index f (length f - 1) == 48)) h in
    let b = and_parts (list_all is_ascii_digit f) (not (length f == 0)) a.0 in
    let some = some_digits f b.1 in
    record {
      digits = are_digits f b.0;
      last = ends_well f some (eqb-false (get_or f (length f - 1) 0) 48 (not-true (get_or f (length f - 1) 0 == 48) a.1));
      count = count_digits f b.0;
      some = some;
    }

no_parts : IsWholePart []
no_parts = record { digits = tt; lead = λ e. omega arith; count = refl }

whole_before : (bs : List ℕ) (i : ℕ) → (nat_eq i 0 || is_whole (take i bs)) ≡ true → IsWholePart (take i bs)
whole_before bs i h = elim (or_cases (nat_eq i 0) (is_whole (take i bs)) h) [
  | inl e ↦ subst (λ k. IsWholePart (take k bs)) (sym (eqb-true i 0 e)) no_parts
  | inr e ↦ (whole_part (take i bs) e).0
]

pointed_some : (f : List ℕ) → 0 < length f → pointed f ≡ 46 ∷ f
pointed_some [] h = absurd (omega arith)
pointed_some (d ∷ ds) h = refl

count_parts : (w f : List ℕ) → count_by is_ascii_digit w ≡ length w → count_by is_ascii_digit f ≡ length f
    → count_by is_ascii_digit (w ++ (46 ∷ f)) ≡ length w + length f
count_parts w f p q = sum_by-append (λ x. cond (is_ascii_digit x) 1 0) w (46 ∷ f) ∙ (λ i. p i + q i)

parts_at : (bs : List ℕ) (o : Option ℕ) → position is_point bs ≡ o → is_positive_at bs o ≡ true → count_by is_ascii_digit bs ≤ 18
    → (w : List ℕ) × (f : List ℕ) × IsParts bs w f
parts_at bs None e h few =
    let w = whole_part bs h in (
      bs,
      [],
      record {
        text = sym (append-nil bs);
        digits = ap (digits_at bs) e;
        whole = w.0.digits;
        fraction = tt;
        lead = w.0.lead;
        last = refl;
        few = omega (arith, w.0.count);
        some = omega (arith, w.1);
      },
    )
parts_at bs (Some i) e h few =
    let t = and_parts (nat_eq i 0 || is_whole (take i bs)) (is_fraction (drop (i + 1) bs)) h in
    let at = position-Some is_point bs i 0 e in
    let w = whole_before bs i t.0 in
    let f = fraction_part (drop (i + 1) bs) t.1 in
    let split : bs ≡ take i bs ++ (46 ∷ drop (i + 1) bs) = rw (add-one, ← eqb-true (get_or bs i 0) 46 at.1) (split_at bs i 0 at.0) in
    let count = count_parts (take i bs) (drop (i + 1) bs) w.count f.count in (
      take i bs,
      drop (i + 1) bs,
      record {
        text = split ∙ ap (λ x. take i bs ++ x) (sym (pointed_some (drop (i + 1) bs) f.some));
        digits = ap (digits_at bs) e;
        whole = w.digits;
        fraction = f.digits;
        lead = w.lead;
        last = f.last;
        few = omega (arith, ap (count_by is_ascii_digit) split, count);
        some = omega (arith, f.some);
      },
    )

pub positive_parts : (bs : List ℕ) → is_positive bs ≡ true → count_by is_ascii_digit bs ≤ 18 → (w : List ℕ) × (f : List ℕ) × IsParts bs w f
positive_parts bs h few = parts_at bs (position is_point bs) refl h few

-- the value of a numeral without a sign, and its text

pub zeros_digits : (n : ℕ) → AllDigits 10 (replicate n 48)
zeros_digits zero = tt
zeros_digits (suc n) = (omega arith, zeros_digits n)

pub joined_digits : (xs ys : List ℕ) → AllDigits 10 xs → AllDigits 10 ys → AllDigits 10 (xs ++ ys)
joined_digits [] ys p q = q
joined_digits (x ∷ xs) ys p q = (p.0, joined_digits xs ys p.1 q)

magnitude_back : (bs w f : List ℕ) → IsParts bs w f → magnitude_text (magnitude bs) ≡ bs
magnitude_back bs w f p =
    let n : ℕ = 18 - length f in
    let zeros : List ℕ = f ++ replicate n 48 in
    let len : length zeros ≡ 18 = omega (arith, length-append f (replicate n 48), length-replicate {A = ℕ} n 48, p.few) in
    ap (λ ds. magnitude_text (digits_value 10 ds)) p.digits
    ∙ text_back w zeros p.whole (joined_digits f (replicate n 48) p.fraction (zeros_digits n)) p.lead (omega (arith, p.few)) len
    ∙ ap (λ ds. w ++ pointed ds) (significant_padded f n ∙ p.last)
    ∙ sym p.text

none_joined : (w f : List ℕ) → 0 < length w + length f → [] ≡ w ++ pointed f → ⊥
none_joined [] [] h e = omega arith
none_joined [] (d ∷ ds) h e = cc
none_joined (d ∷ ds) f h e = cc

zero_text : magnitude_text 0 ≡ []
unfolding digits
zero_text = refl

magnitude_some : (bs w f : List ℕ) → IsParts bs w f → 0 < magnitude bs
magnitude_some bs w f p = elim (cases_eq (magnitude bs) 0) [
  | inl e ↦ absurd (none_joined w f p.some (sym zero_text ∙ ap magnitude_text (sym e) ∙ magnitude_back bs w f p ∙ p.text))
  | inr e ↦ omega arith
]

plus_text : (n : ℕ) → 0 < n → number_text (pos n) ≡ magnitude_text n
plus_text zero h = absurd (omega arith)
plus_text (suc n) h = refl

pub below_zero : (n : ℕ) → pos 0 -ℤ pos (suc n) ≡ negsuc n
below_zero n = omega (arith, ints)

minus_text : (n : ℕ) → 0 < n → number_text (pos 0 -ℤ pos n) ≡ 45 ∷ magnitude_text n
minus_text zero h = absurd (omega arith)
minus_text (suc n) h = ap number_text (below_zero n)

positive_back : (bs : List ℕ) → is_positive bs ≡ true → count_by is_ascii_digit bs ≤ 18 → (0 < magnitude bs) × (magnitude_text (magnitude bs) ≡ bs)
positive_back bs h few =
    let p = positive_parts bs h few in
    (magnitude_some bs p.0 p.1 p.2, magnitude_back bs p.0 p.1 p.2)

-- what a canonical numeral is: 0, or a number above 0 with a minus or without
pub data IsSigned : List ℕ → Type 0 where
  nought : IsSigned (48 ∷ [])
  minus : (bs : List ℕ) → is_positive bs ≡ true → count_by is_ascii_digit bs ≤ 18 → IsSigned (45 ∷ bs)
  plus : (b : ℕ) (bs : List ℕ) → b ≢ 45 → is_positive (b ∷ bs) ≡ true → count_by is_ascii_digit (b ∷ bs) ≤ 18 → IsSigned (b ∷ bs)

alone : (b : ℕ) (bs : List ℕ) → b ≡ 48 → length bs ≡ 0 → IsSigned (b ∷ bs)
alone b [] e z = subst (λ c. IsSigned (c ∷ [])) (sym e) nought
alone b (c ∷ cs) e z = absurd (omega arith)

with_sign : (b : ℕ) (bs : List ℕ) → cond (b == 45) (is_positive bs) (is_positive (b ∷ bs)) ≡ true → count_by is_ascii_digit (b ∷ bs) ≤ 18 → IsSigned (b ∷ bs)
with_sign b bs h few = elim (cases_Bool (b == 45)) [
  | inl e ↦ subst (λ c. count_by is_ascii_digit (c ∷ bs) ≤ 18 → IsSigned (c ∷ bs)) (sym (eqb-true b 45 e)) (minus bs (rw e at h)) few
  | inr e ↦ plus b bs (eqb-false b 45 e) (rw e at h) few
]

pub numeral_signed : (s : List ℕ) → is_number s ≡ true → IsSigned s
numeral_signed [] h = cc
numeral_signed (b ∷ bs) h =
    let t = and_parts (is_numeral (b ∷ bs)) (nat_le (count_by is_ascii_digit (b ∷ bs)) 18) h in
    let few = leb-true (count_by is_ascii_digit (b ∷ bs)) 18 t.1 in
    elim (or_cases (b == 48 && length bs == 0) (cond (b == 45) (is_positive bs) (is_positive (b ∷ bs))) t.0) [
      | inl z ↦ let q = and_parts (b == 48) (length bs == 0) z in alone b bs (eqb-true b 48 q.0) (eqb-true (length bs) 0 q.1)
      | inr p ↦ with_sign b bs p few
    ]

signed_back : {s : List ℕ} → IsSigned s → number_text (value_of s) ≡ s
signed_back nought = refl
signed_back (minus bs h few) = let p = positive_back bs h few in minus_text (magnitude bs) p.0 ∙ ap (λ t. 45 ∷ t) p.1
signed_back (plus b bs ne h few) = let p = positive_back (b ∷ bs) h few in rw (ne_eqb b 45 ne) (plus_text (magnitude (b ∷ bs)) p.0 ∙ p.1)

-- a canonical numeral is the text of its value
pub number_back : (s : List ℕ) → is_number s ≡ true → number_text (value_of s) ≡ s
number_back s h = signed_back (numeral_signed s h)

-- a subscript's bytes are those that it was made of
pub sub_bytes_back : (s : List ℕ) → sub_bytes (sub_of s) ≡ s
sub_bytes_back s = elim (cases_Bool (is_number s)) [ inl e ↦ rw e (number_back s e) | inr e ↦ rw e refl ]

-- bytes that aren't empty make a subscript
pub sub_made : (s : List ℕ) → 0 < length s → is_sub (sub_of s) ≡ true
sub_made s h = elim (cases_Bool (is_number s)) [ inl e ↦ rw e (ap is_number (number_back s e) ∙ e) | inr e ↦ rw (e, lt-ltb 0 (length s) h) (rw e refl) ]

-- the digits of a numeral's magnitude
pub record IsMagnitude (bs : List ℕ) : Type 0 where
  pub digits : AllDigits 10 (digits_at bs (position is_point bs))
  pub few : length (digits_at bs (position is_point bs)) ≤ 36

parts_magnitude : (bs w f : List ℕ) → IsParts bs w f → IsMagnitude bs
parts_magnitude bs w f p =
    let n : ℕ = 18 - length f in
    record {
      digits = subst (AllDigits 10) (sym p.digits) (joined_digits w (f ++ replicate n 48) p.whole (joined_digits f (replicate n 48) p.fraction (zeros_digits n)));
      few = omega (arith, ap length p.digits, length-append w (f ++ replicate n 48), length-append f (replicate n 48), length-replicate {A = ℕ} n 48, p.few);
    }

pub positive_magnitude : (bs : List ℕ) → is_positive bs ≡ true → count_by is_ascii_digit bs ≤ 18 → IsMagnitude bs
positive_magnitude bs h few = let p = positive_parts bs h few in parts_magnitude bs p.0 p.1 p.2

pub nought_magnitude : IsMagnitude (48 ∷ [])
nought_magnitude = record { digits = zeros_digits 19; few = omega arith }

-- what stands behind a minus sign, and a numeral without one

pub magnitude_behind : {s : List ℕ} → IsSigned s → starts_with nat_eq s (45 ∷ []) ≡ true → IsMagnitude (drop 1 s) × (value_of s ≡ pos 0 -ℤ pos (magnitude (drop 1 s)))
magnitude_behind nought h = cc
magnitude_behind (minus bs p few) h = (positive_magnitude bs p few, refl)
magnitude_behind (plus b bs ne p few) h = absurd (ne (sym (eqb-true 45 b (and_parts (nat_eq 45 b) true h).0)))

pub magnitude_whole : {s : List ℕ} → IsSigned s → starts_with nat_eq s (45 ∷ []) ≡ false → IsMagnitude s × (value_of s ≡ pos (magnitude s))
magnitude_whole nought h = (nought_magnitude, refl)
magnitude_whole (minus bs p few) h = cc
magnitude_whole (plus b bs ne p few) h = (positive_magnitude (b ∷ bs) p few, rw (ne_eqb b 45 ne) refl)
