-- Numbers in digits.
use Rattle.std.proofs.Common.{◌≡◌, ◌⊎◌, ℕ, zero, suc, ◌<◌, ◌≤◌, ◌^◌, ◌&&◌, ◌||◌, ◌==◌, not, Bool, true, false, List, [], ◌∷◌, length, get_or, Some, codes, refl, sym, ap, ◌∙◌, subst, inl, inr, arith}
use Rattle.std.specs.Prelude.{nat_le}
use Rattle.std.specs.List.{list_all}
use Rattle.std.specs.Char.{is_ascii_digit}
use Rattle.std.specs.Fmt.{decimal}
use Rattle.std.specs.Str.{bytes_eq}
use Rattle.std.specs.Str.Parse.{AllDigits, digits_value}
use Rattle.std.proofs.lemmas.Str.Parse.{digit_from_value}
use Rattle.std.proofs.lemmas.Fmt.{decimal_digit, first_decimal, decimal-digits_value, digits_value-decimal, digits_decimal, decimal_nonempty}
use Rattle.std.proofs.lemmas.Slice.Eq.{bytes_eq-Decides}
use Rattle.std.proofs.lemmas.Bool.{and_parts, and_from, cases_Bool}
use Rattle.std.proofs.lemmas.Bool.Decides.{nat_tests}
use Rattle.global_defs.specs.Numeral.{is_whole}
use Rattle.global_defs.proofs.Digits.{are_digits}
use Rattle.command_defs.specs.Parts.{is_digits, number_from, number_form}
use Rattle.global_defs.proofs.Basics.{numeral_by_value}

-- digits without a leading zero
record Digits (text : List ℕ) : Type 0 where
  digits : AllDigits 10 text
  some : 0 < length text
  lead : get_or text 0 0 ≡ 48 → length text ≡ 1

not_so : (b : Bool) → not b ≡ true → b ≡ false
not_so true h = cc
not_so false h = refl

whole_digits : (text : List ℕ) → is_whole text ≡ true → Digits text
whole_digits text h =
    let a = and_parts (list_all is_ascii_digit text && not (length text == 0)) (not (get_or text 0 0 == 48)) h in
    let b = and_parts (list_all is_ascii_digit text) (not (length text == 0)) a.0 in
    record {
      digits = are_digits text b.0;
      some = (let e = not_so (length text == 0) b.1 in grind (arith, nat_tests));
      lead = λ e. absurd (let f = not_so (get_or text 0 0 == 48) a.1 in let g : (get_or text 0 0 == 48) ≡ true = rw e refl in cc);
    }

either_way : (a b : Bool) → (a || b) ≡ true → (a ≡ true) ⊎ (b ≡ true)
either_way true b h = inl refl
either_way false b h = inr h

digits_of : (text : List ℕ) → is_digits text ≡ true → Digits text
digits_of text h = elim (either_way (is_whole text) (bytes_eq text (codes "0")) h) [
  | inl w ↦ whole_digits text w
  | inr z ↦ subst Digits (sym ((bytes_eq-Decides text (codes "0")).0 z)) (record { digits = (omega arith, tt); some = omega arith; lead = λ e. refl })
]

from_found : (least most k : ℕ) (text : List ℕ) (n : ℕ) → number_from least most k text ≡ Some n → (is_digits text ≡ true) × (least ≤ k) × (k ≤ most) × (k ≡ n)
from_found least most k text n e = elim (cases_Bool (is_digits text && nat_le least k && nat_le k most)) [
  | inl h ↦ (let a = and_parts (is_digits text && nat_le least k) (nat_le k most) h in
      let b = and_parts (is_digits text) (nat_le least k) a.0 in
      let same : k ≡ n = cc (rw h at e) in
      (b.0, (let f = b.1 in grind (arith, nat_tests)), (let f = a.1 in grind (arith, nat_tests)), same))
  | inr h ↦ absurd (cc (rw h at e))
]

-- a text that was read as a number is that number's
pub number_found : (least most : ℕ) (text : List ℕ) (n : ℕ) → most < 2 ^ 64 → number_form least most text ≡ Some n → (text ≡ decimal n) × (least ≤ n) × (n ≤ most)
number_found least most text n small e =
    let f = from_found least most (digits_value 10 text) text n e in
    let d = digits_of text f.0 in
    let same : text ≡ decimal (digits_value 10 text) = sym (decimal-digits_value numeral_by_value text d.digits d.some d.lead (omega (arith, f.2))) in
    (same ∙ ap decimal f.3, omega (arith, f.1, f.3), omega (arith, f.2, f.3))

all_ascii : (ds : List ℕ) → AllDigits 10 ds → list_all is_ascii_digit ds ≡ true
all_ascii [] h = refl
all_ascii (d ∷ ds) h = let b = digit_from_value d h.0 in let below = all_ascii ds h.1 in grind (arith, nat_tests)

decimal_whole : (n : ℕ) → 0 < n → n < 2 ^ 64 → is_whole (decimal n) ≡ true
decimal_whole n some small =
    let first = first_decimal n some small in
    let all = all_ascii (decimal n) (digits_decimal numeral_by_value n small) in
    let long = decimal_nonempty n small in
    and_from (list_all is_ascii_digit (decimal n) && not (length (decimal n) == 0)) (not (get_or (decimal n) 0 0 == 48))
    (and_from (list_all is_ascii_digit (decimal n)) (not (length (decimal n) == 0)) all (grind (arith, nat_tests))) (grind (arith, nat_tests))

decimal_digits : (n : ℕ) → n < 2 ^ 64 → is_digits (decimal n) ≡ true
decimal_digits zero small = subst (λ t. is_digits t ≡ true) (sym (decimal_digit 0 (omega arith))) refl
decimal_digits (suc n) small = rw (decimal_whole (suc n) (omega arith) small) refl

-- a number's digits are read as it
pub number_read : (least most n : ℕ) → most < 2 ^ 64 → least ≤ n → n ≤ most → number_form least most (decimal n) ≡ Some n
number_read least most n small low high =
    let value = digits_value-decimal numeral_by_value n (omega arith) in
    let digits = decimal_digits n (omega arith) in
    ap (λ (k : ℕ). number_from least most k (decimal n)) value
    ∙ rw digits (let l : nat_le least n ≡ true = grind (arith, nat_tests) in let m : nat_le n most ≡ true = grind (arith, nat_tests) in rw (l, m) refl)

-- a number's digits
pub digits_known : (n : ℕ) → n < 2 ^ 64 → AllDigits 10 (decimal n) × (0 < length (decimal n))
digits_known n small = (digits_decimal numeral_by_value n small, decimal_nonempty n small)
