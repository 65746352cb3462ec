-- A number encoded from its digits is the number encoded.
use Rattle.std.proofs.Common.{◌≡◌, ℕ, zero, suc, ◌+◌, ◌-◌, map, Option, None, append_assoc, length-append, ◌<◌, ◌≤◌, ◌≢◌, Bool, true, false, List, [], ◌∷◌, ◌++◌, length, take, drop, replicate, nat_eq, append-nil, refl, ap, sym, subst, ◌∙◌, arith, inl, inr, ◌==◌, length-drop}
use Rattle.std.specs.List.{starts_with}
use Rattle.std.specs.Str.Parse.{AllDigits, digits_value}
use Rattle.std.specs.Fmt.{decimal}
use Rattle.std.proofs.Math.Seq.{take-length}
use Rattle.std.proofs.lemmas.List.{length-replicate}
use Rattle.std.proofs.lemmas.Bool.{eqb-true, eqb-false, cases_Bool}
use Rattle.global_defs.specs.Numeral.{is_number, digits_at, magnitude, value_of}
use Rattle.global_defs.specs.Key.{Number}
use Rattle.global_defs.specs.Encoded.{significant, positive_sub, negative_sub, encoded_sub}
use Rattle.global_defs.proofs.Digits.{decimal_value, significant_padded, value_positive}
use Rattle.global_defs.proofs.Numerals.{below_zero, numeral_signed, magnitude_behind, magnitude_whole, IsMagnitude}
use Rattle.gvn_key.specs.Stripped.{stripped, signed, number_code, with_zeros}

code_some : (negative : Bool) (n d : ℕ) (ds : List ℕ) → 0 < n → decimal n ≡ d ∷ ds → number_code negative (d ∷ ds) ≡ encoded_sub (Number (signed negative n))
code_some negative zero d ds some e = absurd (omega arith)
code_some true (suc n) d ds some e = rw (below_zero n, e) refl
code_some false (suc n) d ds some e = rw e refl

code_lead : (negative : Bool) (d : ℕ) (ds : List ℕ) → AllDigits 10 (d ∷ ds) → length ds < 40
    → number_code negative (stripped ds) ≡ encoded_sub (Number (signed negative (digits_value 10 ds)))
    → number_code negative (stripped (d ∷ ds)) ≡ encoded_sub (Number (signed negative (digits_value 10 (d ∷ ds))))
code_lead negative d ds all few more = elim (cases_Bool (d == 48)) [
  | inl e ↦ rw e (more ∙ ap (λ c. encoded_sub (Number (signed negative (digits_value 10 (c ∷ ds))))) (sym (eqb-true d 48 e)))
  | inr e ↦
      let lead : d ≢ 48 = eqb-false d 48 e in
      rw e (code_some negative (digits_value 10 (d ∷ ds)) d ds (value_positive d ds lead all) (decimal_value d ds lead all few))
]

pub number_coded : (negative : Bool) (ds : List ℕ) → AllDigits 10 ds → length ds ≤ 40 → number_code negative (stripped ds) ≡ encoded_sub (Number (signed negative (digits_value 10 ds)))
number_coded true [] all few = refl
number_coded false [] all few = refl
number_coded negative (d ∷ ds) all few = code_lead negative d ds all (omega arith) (number_coded negative ds all.1 (omega arith))

stripped_none : (count : ℕ) → stripped (replicate count 48) ≡ []
stripped_none zero = refl
stripped_none (suc count) = stripped_none count

-- zeros behind a number's digits are left where there is another digit
pub stripped_zeros : (count : ℕ) (ds : List ℕ) → stripped (ds ++ replicate count 48) ≡ with_zeros count (stripped ds)
stripped_zeros count [] = stripped_none count
stripped_zeros count (d ∷ ds) = elim (cases_Bool (d == 48)) [
  | inl e ↦ rw e (stripped_zeros count ds)
  | inr e ↦ rw e refl
]

pub no_zeros : (ds : List ℕ) → with_zeros 0 ds ≡ ds
no_zeros [] = refl
no_zeros (d ∷ ds) = append-nil (d ∷ ds)

-- a number without a point, by its digits alone

pub whole_coded : (negative : Bool) (bytes : List ℕ) (place : Option ℕ) → place ≡ None → AllDigits 10 (digits_at bytes place) → length (digits_at bytes place) ≤ 36
    → number_code negative (with_zeros 18 (stripped bytes)) ≡ encoded_sub (Number (signed negative (digits_value 10 (digits_at bytes place))))
whole_coded negative bytes place none all few =
    ap (λ ds. number_code negative ds) (sym (stripped_zeros 18 bytes) ∙ (λ i. stripped (digits_at bytes (sym none i)))) ∙ number_coded negative (digits_at bytes place) all (omega (arith, few))

pub whole_few : (bytes : List ℕ) (place : Option ℕ) → place ≡ None → length (digits_at bytes place) ≤ 36 → length bytes + 18 ≤ 36
whole_few bytes place none few =
    let all : length (bytes ++ replicate 18 48) ≤ 36 = subst (λ p. length (digits_at bytes p) ≤ 36) none few in
    omega (arith, all, length-append bytes (replicate 18 48))

-- a number's bytes, pushed one after another

pushed : (out a b d e ds : List ℕ) (kind exponent end : ℕ) → a ≡ out ++ kind ∷ [] → b ≡ a ++ exponent ∷ [] → d ≡ b ++ ds → e ≡ d ++ end ∷ [] → e ≡ out ++ (kind ∷ exponent ∷ ds ++ end ∷ [])
pushed out a b d e ds kind exponent end p q r s =
    s ∙ ap (λ l. l ++ end ∷ []) (r ∙ ap (λ l. l ++ ds) (q ∙ ap (λ l. l ++ exponent ∷ []) p)) ∙ simp append_assoc

counted : (ds : List ℕ) (count : ℕ) → length ds + count ≡ length (ds ++ replicate count 48)
counted ds count = omega (arith, length-append ds (replicate count 48), length-replicate {A = ℕ} count 48)

pub positive_pushed : (out a b d e ds : List ℕ) (count exponent : ℕ) → a ≡ out ++ 3 ∷ [] → b ≡ a ++ exponent ∷ [] → exponent ≡ 46 + (length ds + count) → d ≡ b ++ significant ds → e ≡ d ++ 0 ∷ []
    → e ≡ out ++ positive_sub (ds ++ replicate count 48)
positive_pushed out a b d e ds count exponent p q told r s = pushed out a b d e (significant ds) 3 exponent 0 p q r s
    ∙ (λ i. out ++ (3 ∷ (told ∙ ap (λ n. 46 + n) (counted ds count)) i ∷ sym (significant_padded ds count) i ++ 0 ∷ []))

pub negative_pushed : (out a b d e ds : List ℕ) (count exponent : ℕ) → a ≡ out ++ 1 ∷ [] → b ≡ a ++ exponent ∷ [] → exponent ≡ 209 - (length ds + count) → d ≡ b ++ map (λ c. 105 - c) (significant ds) → e ≡ d ++ 255 ∷ []
    → e ≡ out ++ negative_sub (ds ++ replicate count 48)
negative_pushed out a b d e ds count exponent p q told r s = pushed out a b d e (map (λ c. 105 - c) (significant ds)) 1 exponent 255 p q r s
    ∙ (λ i. out ++ (1 ∷ (told ∙ ap (λ n. 209 - n) (counted ds count)) i ∷ map (λ c. 105 - c) (sym (significant_padded ds count) i) ++ 255 ∷ []))

-- what stands behind a numeral's first byte
abbrev pub rest : List ℕ → List ℕ
rest s = take (length s - 1) (drop 1 s)

pub tail_is : (n : ℕ) (s : List ℕ) → drop n s ≡ take (length s - n) (drop n s)
tail_is n s = sym (ap (λ k. take k (drop n s)) (sym (length-drop n s)) ∙ take-length (drop n s))

pub rest_is : (s : List ℕ) → drop 1 s ≡ rest s
rest_is s = tail_is 1 s

pub minus_magnitude : (s : List ℕ) → is_number s ≡ true → starts_with nat_eq s (45 ∷ []) ≡ true → IsMagnitude (rest s) × (value_of s ≡ signed true (magnitude (rest s)))
minus_magnitude s h m = subst (λ bs. IsMagnitude bs × (value_of s ≡ signed true (magnitude bs))) (rest_is s) (magnitude_behind (numeral_signed s h) m)

pub plain_magnitude : (s : List ℕ) → is_number s ≡ true → starts_with nat_eq s (45 ∷ []) ≡ false → IsMagnitude s × (value_of s ≡ signed false (magnitude s))
plain_magnitude s h m = magnitude_whole (numeral_signed s h) m
