-- Digits, their values, and zeros behind them.
use Rattle.std.proofs.Common.{◌≡◌, ℕ, suc, zero, ◌+◌, ◌-◌, ◌*◌, ◌^◌, ◌<◌, ◌≤◌, true, List, length, take, drop, replicate, get_or, refl, ap, sym, ◌∙◌, arith}
use Rattle.std.specs.List.{list_all}
use Rattle.std.specs.Char.{is_ascii_digit}
use Rattle.std.specs.Str.Parse.{digits_value}
use Rattle.std.proofs.Math.ListN.{length-append, length-take}
use Rattle.std.proofs.lemmas.Bool.{and_parts}
use Rattle.std.proofs.lemmas.List.{length-replicate, take-append-drop}
use Rattle.std.proofs.lemmas.List.Folds.{list_all-append}
use Rattle.std.proofs.lemmas.Int.Digits.{digits_value-lt, digits_value_more}
use Rattle.std.proofs.lemmas.Str.{digit_value_digit}
use Rattle.std.proofs.lemmas.Str.Parse.{digit_at}
use Rattle.global_defs.proofs.Digits.{are_digits}
use Rattle.global_defs.proofs.NumberText.{power_le}
use Rattle.gvn_key.specs.Decoding.{padded}

-- the number of a few digits
pub value_small : (ds : List ℕ) (n : ℕ) → list_all is_ascii_digit ds ≡ true → length ds ≤ n → digits_value 10 ds < 10 ^ n
value_small ds n all few =
    omega (arith, digits_value-lt 10 ds (are_digits ds all), power_le (length ds) n few)

first_digits : (ds : List ℕ) (i : ℕ) → list_all is_ascii_digit ds ≡ true → list_all is_ascii_digit (take i ds) ≡ true
first_digits ds i all =
    (and_parts (list_all is_ascii_digit (take i ds)) (list_all is_ascii_digit (drop i ds))
    (sym (list_all-append is_ascii_digit (take i ds) (drop i ds)) ∙ ap (list_all is_ascii_digit) (take-append-drop i ds) ∙ all)).0

-- the digits before one of at most 36
pub value_before : (ds : List ℕ) (i : ℕ) → i < length ds → list_all is_ascii_digit ds ≡ true → length ds ≤ 36 → digits_value 10 (take i ds) < 10 ^ 35
value_before ds i at all few = value_small (take i ds) 35 (first_digits ds i all) (omega (arith, length-take i ds))

pub value_upto : (ds : List ℕ) (i : ℕ) → list_all is_ascii_digit ds ≡ true → length ds ≤ 36 → digits_value 10 (take i ds) < 10 ^ 36
value_upto ds i all few = value_small (take i ds) 36 (first_digits ds i all) (omega (arith, length-take i ds))

pub value_next : (ds : List ℕ) (i : ℕ) → i < length ds → list_all is_ascii_digit ds ≡ true → digits_value 10 (take (i + 1) ds) ≡ digits_value 10 (take i ds) * 10 + (get_or ds i 0 - 48)
value_next ds i at all =
    let b = digit_at ds i (are_digits ds all) at in
    digits_value_more 10 ds i at ∙ omega (arith, digit_value_digit (get_or ds i 0) b)

pub zeros_digits : (n : ℕ) → list_all is_ascii_digit (replicate n 48) ≡ true
zeros_digits zero = refl
zeros_digits (suc n) = zeros_digits n

pub padded_digits : (count : ℕ) (ds : List ℕ) → list_all is_ascii_digit ds ≡ true → list_all is_ascii_digit (padded count ds) ≡ true
padded_digits count ds all = list_all-append is_ascii_digit ds (replicate (count - length ds) 48) ∙ rw (all, zeros_digits (count - length ds)) refl

pub padded_length : (count : ℕ) (ds : List ℕ) → length ds ≤ count → length (padded count ds) ≡ count
padded_length count ds fits = omega (arith, length-append ds (replicate (count - length ds) 48), length-replicate {A = ℕ} (count - length ds) 48)
