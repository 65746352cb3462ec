-- Numbers in digits.
use Rattle.std.proofs.Common.{◌≡◌, ℕ, zero, suc, ◌<◌, ◌^◌, ◌≢◌, List, [], ◌∷◌, length, get_or, sym, ◌∙◌, ap, subst, arith, Ok, Err, inl, inr}
use Rattle.std.specs.Prelude.{Bool, true, false, MatchBool, Result, decimal, IsUtf8, ◌⊎◌}
use Rattle.std.specs.Str.Parse.{ParsesUnsigned}
use Rattle.std.proofs.lemmas.Str.Parse.{parse_plain}
use Rattle.std.proofs.lemmas.Str.{IsUtf8-from_ascii}
use Rattle.std.proofs.lemmas.Fmt.{parse-decimal, decimal_digit, first_decimal, decimal-digits_value, IsAscii-decimal}
use Rattle.global_defs.proofs.Basics.{numeral_by_value}

-- text that was read as a number is the number's numeral_by_value
pub own_text : {E : Type 0} (text : List ℕ) (r : Result ℕ E) (n : ℕ) → ParsesUnsigned 64 10 text r → r ≡ Ok n → get_or text 0 0 ≢ 43 → (get_or text 0 0 ≡ 48 → length text ≡ 1) → (n < 2 ^ 64) × (text ≡ decimal n)
own_text {E} text r n h e plus lead =
    let q : ParsesUnsigned {E = E} 64 10 text (Ok n) = subst (λ (x : Result ℕ E). ParsesUnsigned 64 10 text x) e h in
    let p = parse_plain numeral_by_value {E = E} 64 text (Ok n) q plus in
    (omega (arith, p.0.2, p.1), sym (decimal-digits_value numeral_by_value text p.0.0 p.0.1 lead p.0.2) ∙ ap decimal (sym p.1))

lead_of : (n : ℕ) → n < 2 ^ 64 → (48 < get_or (decimal n) 0 0) ⊎ (decimal n ≡ 48 ∷ [])
lead_of zero h = inr (decimal_digit 0 (omega arith))
lead_of (suc n) h = inl (first_decimal (suc n) (omega arith) h)

pub no_plus : (text : List ℕ) (n : ℕ) → n < 2 ^ 64 → text ≡ decimal n → get_or text 0 0 ≢ 43
no_plus text n h e p = elim (lead_of n h) [
  | inl l ↦ (let s : get_or text 0 0 ≡ get_or (decimal n) 0 0 = ap (λ (x : List ℕ). get_or x 0 0) e in omega (arith, s, l, p))
  | inr d ↦ (let s : get_or text 0 0 ≡ 48 = ap (λ (x : List ℕ). get_or x 0 0) (e ∙ d) in omega (arith, s, p))
]

pub one_zero : (text : List ℕ) (n : ℕ) → n < 2 ^ 64 → text ≡ decimal n → get_or text 0 0 ≡ 48 → length text ≡ 1
one_zero text n h e p = elim (lead_of n h) [
  | inl l ↦ absurd (let s : get_or text 0 0 ≡ get_or (decimal n) 0 0 = ap (λ (x : List ℕ). get_or x 0 0) e in omega (arith, s, l, p))
  | inr d ↦ ap length (e ∙ d)
]

pub is_text : (text : List ℕ) (n : ℕ) → n < 2 ^ 64 → text ≡ decimal n → IsUtf8 text
is_text text n h e = subst IsUtf8 (sym e) (IsUtf8-from_ascii (decimal n) (IsAscii-decimal n h))

pub read_so : {E : Type 0} (text : List ℕ) (r : Result ℕ E) (n : ℕ) → n < 2 ^ 64 → text ≡ decimal n → ParsesUnsigned 64 10 text r → r ≡ Ok n
read_so text r n h e p = parse-decimal 64 n text r h h e p

pub begun_badly : (text : List ℕ) (n : ℕ) (b : Bool) (Q : Type 0) → n < 2 ^ 64 → text ≡ decimal n → b ≡ true → MatchBool b ((get_or text 0 0 ≡ 43) ⊎ ((get_or text 0 0 ≡ 48) × (length text ≢ 1))) Q → ⊥
begun_badly text n true Q h e t (inl p) = no_plus text n h e p
begun_badly text n true Q h e t (inr p) = p.1 (one_zero text n h e p.0)
begun_badly text n false Q h e t m = cc

pub begun_well : (P : Type 0) (b : Bool) (Q : Type 0) → b ≡ false → MatchBool b P Q → Q
begun_well P true Q e m = cc
begun_well P false Q e m = m

pub no_number : {E : Type 0} {r : Result ℕ E} {k : ℕ} {e : E} → r ≡ Ok k → r ≡ Err e → ⊥
no_number {E} {r} {k} {e} a b = let s : Ok k ≡ Err e = sym a ∙ b in cc
