-- Integers of at most 18 digits.
use Rattle.std.proofs.Common.{◌≡◌, ℕ, ◌-◌, ◌≤◌, ◌≢◌, true, false, not, List, [], ◌∷◌, length, take, drop, get_or, refl, ap, sym, ◌∙◌, arith, ◌==◌, ◌&&◌, count_by, inl, inr, Some, pos, ◌-ℤ◌, subst}
use Rattle.std.specs.List.{list_all, list_any}
use Rattle.std.specs.Char.{is_ascii_digit}
use Rattle.std.specs.Str.Parse.{digits_value}
use Rattle.std.proofs.lemmas.Bool.{and_parts, cases_Bool, not-true, eq-eqb, ne_eqb}
use Rattle.global_defs.specs.Numeral.{integer_of, is_point, is_number, is_whole, is_positive, is_positive_at}
use Rattle.global_defs.proofs.Numerals.{IsSigned, nought, minus, plus, numeral_signed}
use Rattle.gvn_key.proofs.Numbers.{rest_is}
use Rattle.global_defs.proofs.Places.{none_pass, position_nowhere}
use Rattle.gvn_key.proofs.CodeNumbers.{count_from}

-- a numeral without a point is digits, perhaps behind a minus

no_point : (bs : List ℕ) → list_any is_point bs ≡ false → none_pass is_point bs ≡ true
no_point [] h = refl
no_point (b ∷ bs) h = elim (cases_Bool (is_point b)) [
  | inl e ↦ absurd (cc (rw e at h))
  | inr e ↦ rw e (no_point bs (rw e at h))
]

pub record IsDigits (ds : List ℕ) : Type 0 where
  pub digits : list_all is_ascii_digit ds ≡ true
  pub few : length ds ≤ 18

positive_digits : (bs : List ℕ) → is_positive bs ≡ true → count_by is_ascii_digit bs ≤ 18 → list_any is_point bs ≡ false → IsDigits bs
positive_digits bs h few none =
    let whole : is_whole bs ≡ true = sym (ap (is_positive_at bs) (position_nowhere is_point bs (no_point bs none))) ∙ h in
    let all = (and_parts (list_all is_ascii_digit bs) (not (length bs == 0)) (and_parts (list_all is_ascii_digit bs && not (length bs == 0)) (not (get_or bs 0 0 == 48)) whole).0).0 in
    record { digits = all; few = omega (arith, count_from 0 bs all) }

abbrev IsInteger : List ℕ → Type 0
IsInteger s = (get_or s 0 0 ≡ 45 → IsDigits (drop 1 s)) × (get_or s 0 0 ≢ 45 → IsDigits s)

signed_digits : {s : List ℕ} → IsSigned s → list_any is_point s ≡ false → IsInteger s
signed_digits nought none = (λ e. absurd (omega arith), λ ne. record { digits = refl; few = omega arith })
signed_digits (minus bs h few) none = (λ e. positive_digits bs h few none, λ ne. absurd (ne refl))
signed_digits (plus b bs ne h few) none = (λ e. absurd (ne e), λ other. positive_digits (b ∷ bs) h few none)

pub integer_digits : (s : List ℕ) → is_number s ≡ true → list_any is_point s ≡ false → IsInteger s
integer_digits s h none = signed_digits (numeral_signed s h) none

abbrev IsWritten : List ℕ → Type 0
IsWritten s = (is_number s && not (list_any is_point s)) ≡ true

written_digits : (s : List ℕ) → IsWritten s → IsInteger s
written_digits s h = let a = and_parts (is_number s) (not (list_any is_point s)) h in integer_digits s a.0 (not-true (list_any is_point s) a.1)

pub minus_digits : (s : List ℕ) → IsWritten s → get_or s 0 0 ≡ 45 → IsDigits (take (length s - 1) (drop 1 s))
minus_digits s h e = subst IsDigits (rest_is s) ((written_digits s h).0 e)

pub plain_digits : (s : List ℕ) → IsWritten s → get_or s 0 0 ≢ 45 → IsDigits s
plain_digits s h ne = (written_digits s h).1 ne

pub minus_value : (s : List ℕ) (v : ℕ) → IsWritten s → get_or s 0 0 ≡ 45 → v ≡ digits_value 10 (take (length s - 1) (drop 1 s)) → Some (pos 0 -ℤ pos v) ≡ integer_of s
minus_value [] v h e is = absurd (omega arith)
minus_value (b ∷ bs) v h e is = rw (h, eq-eqb b 45 e) (ap (λ n. Some (pos 0 -ℤ pos n)) (is ∙ ap (digits_value 10) (sym (rest_is (b ∷ bs)))))

pub plain_value : (s : List ℕ) (v : ℕ) → IsWritten s → get_or s 0 0 ≢ 45 → v ≡ digits_value 10 s → Some (pos v) ≡ integer_of s
plain_value [] v h ne is = absurd (cc h)
plain_value (b ∷ bs) v h ne is = rw (h, ne_eqb b 45 ne) (ap (λ n. Some (pos n)) is)
