-- Which bytes are numerals and which are not, and the code of a whole number.
use Rattle.std.proofs.Common.{◌≡◌, ℕ, zero, suc, pos, ◌+◌, ◌-◌, ◌<◌, ◌≤◌, true, false, not, cond, ◌&&◌, ◌||◌, nat_le, List, [], ◌∷◌, ◌++◌, length, get_or, fold, position, replicate, count_by, slice_index, Option, Some, None, refl, ap, sym, ◌∙◌, arith, ◌==◌}
use Rattle.std.specs.List.{list_all}
use Rattle.std.specs.Char.{is_ascii_digit}
use Rattle.std.specs.Str.Parse.{digits_value}
use Rattle.std.specs.Fmt.{decimal}
use Rattle.std.proofs.lemmas.Bool.{and_parts, leb-true, le-leb, eqb-false, ne_eqb, not-true}
use Rattle.std.proofs.lemmas.List.{length-replicate}
use Rattle.std.proofs.lemmas.List.Folds.{list_all-append}
use Rattle.std.proofs.lemmas.List.Quantifiers.{position-Some}
use Rattle.std.proofs.Math.ListN.{length-append}
use Rattle.std.proofs.Math.Seq.{take-length}
use Rattle.global_defs.specs.Key.{Number}
use Rattle.global_defs.specs.Numeral.{is_point, is_positive, is_positive_at, is_number}
use Rattle.global_defs.specs.NodeText.{magnitude_text, number_text}
use Rattle.global_defs.specs.Encoded.{significant, positive_sub, encoded_sub}
use Rattle.global_defs.specs.Valid.{is_sub}
use Rattle.global_defs.proofs.Digits.{digit_bounds, are_digits, decimal_value, value_positive, significant_padded, significant_done}
use Rattle.global_defs.proofs.Places.{none_pass, position_nowhere}
use Rattle.gvn_key.specs.Decoding.{are_whole, padded}
use Rattle.gvn_key.proofs.DigitValues.{zeros_digits, padded_digits, padded_length}
use Rattle.gvn_key.proofs.WholeNumbers.{whole_text}
use Rattle.gvn_key.specs.Plain.{begins_numeral, is_whole_number}

-- ---- digits that don't begin with 0, at most 18, are a number

pub count_from : (n : ℕ) (ds : List ℕ) → list_all is_ascii_digit ds ≡ true → fold (λ a x. a + cond (is_ascii_digit x) 1 0) n ds ≡ n + length ds
count_from n [] h = omega arith
count_from n (c ∷ cs) h =
    let a = and_parts (is_ascii_digit c) (list_all is_ascii_digit cs) h in
    rw a.0 (omega (arith, count_from (n + 1) cs a.1))

no_points : (ds : List ℕ) → list_all is_ascii_digit ds ≡ true → none_pass is_point ds ≡ true
no_points [] h = refl
no_points (c ∷ cs) h =
    let a = and_parts (is_ascii_digit c) (list_all is_ascii_digit cs) h in
    rw (ne_eqb c 46 (λ e. omega (arith, digit_bounds c a.0))) (no_points cs a.1)

whole_number : (d : ℕ) (ds : List ℕ) → list_all is_ascii_digit (d ∷ ds) ≡ true → (d == 48) ≡ false → length (d ∷ ds) ≤ 18 → is_number (d ∷ ds) ≡ true
whole_number d ds all lead few =
    let digit = (and_parts (is_ascii_digit d) (list_all is_ascii_digit ds) all).0 in
    let count : nat_le (count_by is_ascii_digit (d ∷ ds)) 18 ≡ true = le-leb (count_by is_ascii_digit (d ∷ ds)) 18 (omega (arith, count_from 0 (d ∷ ds) all)) in
    let positive : is_positive (d ∷ ds) ≡ true = ap (is_positive_at (d ∷ ds)) (position_nowhere is_point (d ∷ ds) (no_points (d ∷ ds) all)) ∙ rw (all, lead, ne_eqb (length (d ∷ ds)) 0 (λ e. omega arith)) refl in
    rw (lead, ne_eqb d 45 (λ e. omega (arith, digit_bounds d digit)), positive, count) refl

-- ---- what begins with no digit, sign or point is no number

record BeginsOtherwise (b : ℕ) : Type 0 where
  digit : is_ascii_digit b ≡ false
  sign : (b == 45) ≡ false
  point : (b == 46) ≡ false

neither : (p q : _) → (p || q) ≡ false → (p ≡ false) × (q ≡ false)
neither true q h = cc
neither false q h = (refl, h)

otherwise : (b : ℕ) → begins_numeral b ≡ false → BeginsOtherwise b
otherwise b h =
    let s = neither (is_ascii_digit b || b == 45) (b == 46) h in
    let t = neither (is_ascii_digit b) (b == 45) s.0 in
    record { digit = t.0; sign = t.1; point = s.1 }

not_nought : (b : ℕ) → is_ascii_digit b ≡ false → (b == 48) ≡ false
not_nought b h = ne_eqb b 48 (λ e. cc (ap is_ascii_digit e, h))

not_positive : (b : ℕ) (bs : List ℕ) → BeginsOtherwise b → (o : Option ℕ) → position is_point (b ∷ bs) ≡ o → is_positive_at (b ∷ bs) o ≡ false
not_positive b bs w None e = rw w.digit refl
not_positive b bs w (Some zero) e = absurd (cc ((position-Some is_point (b ∷ bs) 0 0 e).1, w.point))
not_positive b bs w (Some (suc i)) e = rw (w.digit, ne_eqb (suc i) 0 (λ e. omega arith)) refl

pub no_number : (b : ℕ) (bs : List ℕ) → begins_numeral b ≡ false → is_number (b ∷ bs) ≡ false
no_number b bs h =
    let w = otherwise b h in
    rw (not_nought b w.digit, w.sign, not_positive b bs w (position is_point (b ∷ bs)) refl) refl

-- ---- a whole number's code

positive_code : (n : ℕ) → 0 < n → encoded_sub (Number (pos n)) ≡ positive_sub (decimal n)
positive_code zero some = absurd (omega arith)
positive_code (suc n) some = refl

positive_text : (n : ℕ) → 0 < n → number_text (pos n) ≡ magnitude_text n
positive_text zero some = absurd (omega arith)
positive_text (suc n) some = refl

ends_well : (ds : List ℕ) → 0 < length ds → (slice_index ds (length ds - 1) == 48) ≡ false → significant ds ≡ ds
ends_well ds some last = sym (sym (take-length ds) ∙ significant_done ds (length ds) some (omega arith) (eqb-false (get_or ds (length ds - 1) 0) 48 last) ∙ ap significant (take-length ds))

-- what makes digits those of a whole number
pub record WholeParts (exponent d : ℕ) (ds : List ℕ) : Type 0 where
  pub lead : (d == 48) ≡ false
  pub last : (slice_index (d ∷ ds) (length (d ∷ ds) - 1) == 48) ≡ false
  pub least : 64 + length (d ∷ ds) ≤ exponent
  pub most : exponent ≤ 82

pub whole_parts : (exponent d : ℕ) (ds : List ℕ) → is_whole_number exponent (d ∷ ds) ≡ true → WholeParts exponent d ds
whole_parts exponent d ds h =
    let last = slice_index (d ∷ ds) (length (d ∷ ds) - 1) == 48 in
    let long = nat_le (64 + length (d ∷ ds)) exponent in
    let a = and_parts (not (d == 48) && not last && long) (nat_le exponent 82) h in
    let b = and_parts (not (d == 48) && not last) long a.0 in
    let e = and_parts (not (d == 48)) (not last) b.0 in
    record { lead = not-true (d == 48) e.0; last = not-true last e.1; least = leb-true (64 + length (d ∷ ds)) exponent b.1; most = leb-true exponent 82 a.1 }

pub whole_made : (exponent d : ℕ) (ds : List ℕ) → WholeParts exponent d ds → is_whole_number exponent (d ∷ ds) ≡ true
whole_made exponent d ds w = rw (w.lead, w.last, le-leb (64 + length (d ∷ ds)) exponent w.least, le-leb exponent 82 w.most) refl

pub record IsWhole (exponent : ℕ) (ds : List ℕ) : Type 0 where
  pub n : ℕ
  pub valid : is_sub (Number (pos n)) ≡ true
  pub code : encoded_sub (Number (pos n)) ≡ 3 ∷ exponent ∷ ds ++ 0 ∷ []

pub whole : (exponent : ℕ) (ds : List ℕ) → list_all is_ascii_digit ds ≡ true → is_whole_number exponent ds ≡ true → IsWhole exponent ds
whole exponent [] all h = cc
whole exponent (d ∷ dr) all h =
    let ds : List ℕ = d ∷ dr in
    let w = whole_parts exponent d dr h in
    let lead = w.lead in
    let least = w.least in
    let most = w.most in
    let count : ℕ = exponent - 46 in
    let zeros : List ℕ = replicate (count - length ds) 48 in
    let long : length (padded count ds) ≡ count = padded_length count ds (omega (arith, least)) in
    let digits = are_digits (padded count ds) (padded_digits count ds all) in
    let n : ℕ = digits_value 10 (padded count ds) in
    let some : 0 < n = value_positive d (dr ++ zeros) (eqb-false d 48 lead) digits in
    let is : decimal n ≡ padded count ds = decimal_value d (dr ++ zeros) (eqb-false d 48 lead) digits (omega (arith, long, most)) in
    let same : significant (padded count ds) ≡ ds = significant_padded ds (count - length ds) ∙ ends_well ds (omega arith) w.last in
    let byte : 46 + length (padded count ds) ≡ exponent = omega (arith, long, least) in
    let fits : are_whole count ds ≡ true = rw (lead, le-leb (length ds + 18) count (omega (arith, least))) refl in
    let text : number_text (pos n) ≡ ds ++ replicate (count - 18 - length ds) 48 = positive_text n some ∙ sym (whole_text count ds all (omega (arith, most)) fits) in
    let more : List ℕ = replicate (count - 18 - length ds) 48 in
    let all_more : list_all is_ascii_digit (ds ++ more) ≡ true = list_all-append is_ascii_digit ds more ∙ rw (all, zeros_digits (count - 18 - length ds)) refl in
    let few : length (ds ++ more) ≤ 18 = omega (arith, length-append ds more, length-replicate {A = ℕ} (count - 18 - length ds) 48, least, most) in
    record {
      n = n;
      valid = ap is_number text ∙ whole_number d (dr ++ more) all_more lead few;
      code = positive_code n some ∙ ap positive_sub is ∙ (λ i. 3 ∷ byte i ∷ same i ++ 0 ∷ []);
    }
