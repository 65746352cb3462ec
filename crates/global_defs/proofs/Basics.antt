-- Small facts of tests, options, results, lists and bytes.
use Rattle.std.proofs.Common.{◌≡◌, ℕ, ◌<◌, ◌&&◌, Bool, true, false, List, [], ◌∷◌, ◌++◌, length, Option, Some, None, Result, Ok, Err, refl, arith}
use Rattle.std.specs.Prelude.{is_err, OnOk}
use Rattle.std.specs.Option.{option_or}
use Rattle.std.specs.List.{last_or}
use Rattle.std.specs.declared.cmp.Ordering.{Ordering}
use Rattle.std.specs.Ordering.{nat_cmp}
use Rattle.std.specs.Cmp.Lexicographic.{slice_cmp}
use Rattle.std.specs.Str.Parse.{AllDigits, digits_value}
use Rattle.std.proofs.lemmas.Str.Parse.{IsNumeralModel, numerals_by_value, tells_digits}

-- bytes compare byte by byte
abbrev pub bytes_cmp : List ℕ → List ℕ → Ordering
bytes_cmp = slice_cmp nat_cmp

pub and_false : (b : Bool) → (b && false) ≡ false
and_false true = refl
and_false false = refl

pub or_none : {X : Type 0} (o : Option X) → option_or o None ≡ o
or_none None = refl
or_none (Some x) = refl

pub ok_of : {E : Type 0} (r : Result (Unit {0}) E) (P : Type 0) → is_err r ≡ false → OnOk r P → P
ok_of (Ok u) P is h = h
ok_of (Err e) P is h = absurd (cc)

pub longer : {X : Type 0} (xs : List X) (x : X) → 0 < length (xs ++ x ∷ [])
longer [] x = omega arith
longer (y ∷ xs) x = omega arith

pub last_or_push : {X : Type 0} (o : Option X) (xs : List X) (y : X) → last_or o (xs ++ y ∷ []) ≡ Some y
last_or_push o [] y = refl
last_or_push o (x ∷ xs) y = last_or_push (Some x) xs y

-- digits are a numeral's by their value
pub numeral_by_value : IsNumeralModel (AllDigits 10) (digits_value 10)
numeral_by_value = numerals_by_value (AllDigits 10) tells_digits
