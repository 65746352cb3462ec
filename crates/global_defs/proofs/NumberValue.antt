-- A number's text has its value, and so a subscript's own bytes make it again.
use Rattle.std.proofs.Common.{◌≡◌, ℕ, ℤ, pos, negsuc, suc, zero, ◌+◌, ◌-◌, ◌*◌, ◌/◌, ◌%◌, ◌^◌, ◌<◌, ◌≢◌, ◌-ℤ◌, true, not, nat_lt, List, [], ◌∷◌, ◌++◌, length, drop, replicate, map, refl, ap, sym, subst, ◌∙◌, arith, get_or, position, inl, inr}
use Rattle.std.specs.List.{list_all}
use Rattle.std.specs.Str.Parse.{AllDigits, digits_value}
use Rattle.std.specs.Fmt.{decimal}
use Rattle.std.proofs.lemmas.List.{append-nil}
use Rattle.std.proofs.Math.Seq.{take-append_seam, drop-append-add}
use Rattle.std.proofs.lemmas.Bool.{and_parts, ne_eqb, not-true, cases_eq}
use Rattle.std.proofs.lemmas.Str.Parse.{digit_from_value}
use Rattle.global_defs.specs.Numeral.{is_point, is_number, all_digits, digits_at, magnitude, value_of}
use Rattle.global_defs.specs.Encoded.{significant}
use Rattle.global_defs.specs.Key.{Sub, Number, Text, sub_of}
use Rattle.global_defs.specs.NodeText.{whole_digits, pointed, magnitude_text, number_text, sub_bytes}
use Rattle.global_defs.specs.Valid.{is_sub}
use Rattle.global_defs.proofs.Digits.{value_joined}
use Rattle.global_defs.proofs.Numerals.{below_zero}
use Rattle.global_defs.proofs.Places.{none_pass, position_behind, position_nowhere}
use Rattle.global_defs.proofs.NumberText.{unsigned, number_small, decimal_is, padded_back, fraction_is}

record IsWholeOf (n : ℕ) (ds : List ℕ) : Type 0 where
  pub digits : AllDigits 10 ds
  pub value : digits_value 10 ds ≡ n

whole_is : (n : ℕ) → n < 10 ^ 64 → IsWholeOf n (whole_digits n)
whole_is n small = elim (cases_eq n 0) [
  | inl e ↦ subst (λ k. IsWholeOf k (whole_digits k)) (sym e) (record { digits = tt; value = refl })
  | inr ne ↦ let d = decimal_is n small in rw (ne_eqb n 0 ne) (record { digits = d.digits; value = d.value })
]

digits_no_point : (ds : List ℕ) → AllDigits 10 ds → none_pass is_point ds ≡ true
digits_no_point [] h = refl
digits_no_point (c ∷ cs) h = rw (ne_eqb c 46 (λ e. omega (arith, digit_from_value c h.0))) (digits_no_point cs h.1)

-- the digits of a text by its parts
digits_of_parts : (w f : List ℕ) → AllDigits 10 w → digits_at (w ++ pointed f) (position is_point (w ++ pointed f)) ≡ all_digits w f
digits_of_parts w [] h =
    let whole : w ++ [] ≡ w = append-nil w in
    rw whole (ap (digits_at w) (position_nowhere is_point w (digits_no_point w h)))
digits_of_parts w (d ∷ ds) h =
    let f : List ℕ = d ∷ ds in
    ap (digits_at (w ++ (46 ∷ f))) (position_behind is_point w 46 f (digits_no_point w h) refl)
    ∙ (λ i. all_digits (take-append_seam w (46 ∷ f) i) (drop-append-add w (46 ∷ f) 1 i))

value_signless : (n : ℕ) → n < 10 ^ 36 → magnitude (magnitude_text n) ≡ n
value_signless n small =
    let w : List ℕ = whole_digits (n / 10 ^ 18) in
    let digits : List ℕ = drop 1 (decimal (10 ^ 18 + n % 10 ^ 18)) in
    let whole = whole_is (n / 10 ^ 18) (omega arith) in
    let fraction = fraction_is (n % 10 ^ 18) (omega arith) in
    let zeros : significant digits ++ replicate (18 - length (significant digits)) 48 ≡ digits =
    ap (λ k. significant digits ++ replicate (k - length (significant digits)) 48) (sym fraction.length_is) ∙ (padded_back digits).same in
    let sum : digits_value 10 w * 10 ^ length digits + digits_value 10 digits ≡ n =
    (λ i. whole.value i * 10 ^ fraction.length_is i + fraction.value i) ∙ omega arith in
    ap (digits_value 10) (digits_of_parts w (significant digits) whole.digits ∙ ap (λ x. w ++ x) zeros)
    ∙ value_joined w digits
    ∙ sum

plain_value : (s : List ℕ) → get_or s 0 0 ≢ 45 → value_of s ≡ pos (magnitude s)
plain_value [] h = refl
plain_value (b ∷ bs) h = rw (ne_eqb b 45 h) refl

no_minus : (w f : List ℕ) → AllDigits 10 w → get_or (w ++ pointed f) 0 0 ≢ 45
no_minus [] [] h e = omega arith
no_minus [] (d ∷ ds) h e = omega arith
no_minus (c ∷ cs) f h e = omega (arith, digit_from_value c h.0)

text_no_minus : (n : ℕ) → n < 10 ^ 36 → get_or (magnitude_text n) 0 0 ≢ 45
text_no_minus n small = no_minus (whole_digits (n / 10 ^ 18)) (significant (drop 1 (decimal (10 ^ 18 + n % 10 ^ 18)))) (whole_is (n / 10 ^ 18) (omega arith)).digits

pub value_text : (x : ℤ) → unsigned x < 10 ^ 36 → value_of (number_text x) ≡ x
value_text (pos zero) small = refl
value_text (pos (suc n)) small = plain_value (magnitude_text (suc n)) (text_no_minus (suc n) small) ∙ ap pos (value_signless (suc n) small)
value_text (negsuc n) small = ap (λ m. pos 0 -ℤ pos m) (value_signless (suc n) small) ∙ below_zero n

-- a subscript's own bytes make it
pub sub_back : (s : Sub) → is_sub s ≡ true → sub_of (sub_bytes s) ≡ s
sub_back (Number x) h = rw h (ap Number (value_text x (number_small x h)))
sub_back (Text t) h = rw (not-true (is_number t) (and_parts (nat_lt 0 (length t)) (not (is_number t)) h).1) refl

pub subs_back : (subs : List Sub) → list_all is_sub subs ≡ true → map sub_of (map sub_bytes subs) ≡ subs
subs_back [] h = refl
subs_back (s ∷ ss) h = let t = and_parts (is_sub s) (list_all is_sub ss) h in λ i. sub_back s t.0 i ∷ subs_back ss t.1 i
