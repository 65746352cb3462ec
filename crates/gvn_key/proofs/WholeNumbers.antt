-- The digits of a whole number, with the zeros that it ends with, are its numeral.
use Rattle.std.proofs.Common.{◌≡◌, ℕ, ◌+◌, ◌-◌, ◌≤◌, true, not, nat_le, List, [], ◌∷◌, ◌++◌, length, replicate, refl, ap, sym, ◌∙◌, arith, append_assoc, ◌==◌}
use Rattle.std.specs.List.{list_all}
use Rattle.std.specs.Char.{is_ascii_digit}
use Rattle.std.specs.Str.Parse.{digits_value}
use Rattle.std.proofs.lemmas.Bool.{and_parts, leb-true, eqb-false, not-true}
use Rattle.std.proofs.lemmas.List.{append-nil, replicate-append-replicate, length-replicate}
use Rattle.std.proofs.lemmas.List.Folds.{list_all-append}
use Rattle.std.proofs.Math.ListN.{length-append}
use Rattle.global_defs.specs.NodeText.{magnitude_text}
use Rattle.global_defs.proofs.Digits.{are_digits}
use Rattle.global_defs.proofs.Numerals.{text_back}
use Rattle.gvn_key.specs.Decoding.{are_whole, padded}
use Rattle.gvn_key.proofs.DigitValues.{zeros_digits}

pub whole_text : (count : ℕ) (ds : List ℕ) → list_all is_ascii_digit ds ≡ true → count ≤ 36 → are_whole count ds ≡ true
    → ds ++ replicate (count - 18 - length ds) 48 ≡ magnitude_text (digits_value 10 (padded count ds))
whole_text count [] all few h = cc
whole_text count (d ∷ ds) all few h =
    let t = and_parts (not (d == 48)) (nat_le (length (d ∷ ds) + 18) count) h in
    let fits : length (d ∷ ds) + 18 ≤ count = leb-true (length (d ∷ ds) + 18) count t.1 in
    let n : ℕ = count - 18 - length (d ∷ ds) in
    let w : List ℕ = (d ∷ ds) ++ replicate n 48 in
    let p : List ℕ = replicate 18 48 in
    let zeros : count - length (d ∷ ds) ≡ n + 18 = omega (arith, fits) in
    let split : padded count (d ∷ ds) ≡ w ++ p =
    ap (λ k. (d ∷ ds) ++ replicate k 48) zeros ∙ ap (λ (z : List ℕ). (d ∷ ds) ++ z) (sym (replicate-append-replicate n 18 48)) ∙ sym (append_assoc (d ∷ ds) (replicate n 48) p) in
    let digits : list_all is_ascii_digit w ≡ true = list_all-append is_ascii_digit (d ∷ ds) (replicate n 48) ∙ rw (all, zeros_digits n) refl in
    let short : length w ≤ 40 = omega (arith, length-append (d ∷ ds) (replicate n 48), length-replicate {A = ℕ} n 48, fits) in
    sym (ap (λ x. magnitude_text (digits_value 10 x)) split ∙ text_back w p (are_digits w digits) (are_digits p refl) (eqb-false d 48 (not-true (d == 48) t.0)) short refl ∙ append-nil w)
