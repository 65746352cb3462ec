-- Canonical numerals, and their values (GT.M: canonical numbers; the limit of 18 digits is this project's).
-- A value is kept as the whole number that is 10 ^ 18 times it.
use Rattle.std.specs.Prelude.{ℕ, ℤ, suc, pos, negsuc, ◌-ℤ◌, ◌+◌, ◌^◌, ◌&&◌, ◌||◌, ◌==◌, Bool, false, not, List, [], ◌∷◌, ◌++◌, length, take, drop, position, slice_index, ◌-◌, replicate, count_by, Option, Some, None, nat_le, nat_lt, nat_abs, if◌then◌else◌}
use Rattle.std.specs.List.{list_all, list_any}
use Rattle.std.specs.Str.Parse.{digits_value}
use Rattle.std.specs.Fmt.{decimal}
use Rattle.std.specs.Char.{is_ascii_digit}

abbrev pub is_point : ℕ → Bool
is_point b = b == 46

-- digits, one at least, that don't begin with 0
abbrev pub is_whole : List ℕ → Bool
is_whole bs = list_all is_ascii_digit bs && not (length bs == 0) && not (slice_index bs 0 == 48)

-- digits, one at least, that don't end with 0
abbrev pub is_fraction : List ℕ → Bool
is_fraction bs = list_all is_ascii_digit bs && not (length bs == 0) && not (slice_index bs (length bs - 1) == 48)

-- a number above 0 whose point is there: digits, or a point and a fraction, or both
abbrev pub is_positive_at : List ℕ → Option ℕ → Bool
is_positive_at bs None = is_whole bs
is_positive_at bs (Some i) = (i == 0 || is_whole (take i bs)) && is_fraction (drop (i + 1) bs)

abbrev pub is_positive : List ℕ → Bool
is_positive bs = is_positive_at bs (position is_point bs)

-- 0, or a number above 0, or one with a minus sign
abbrev pub is_numeral : List ℕ → Bool
is_numeral [] = false
is_numeral (b ∷ bs) = (b == 48 && length bs == 0) || (if b == 45 then is_positive bs else is_positive (b ∷ bs))

-- how many digits a number may have
abbrev pub MOST_DIGITS : ℕ
MOST_DIGITS = 18

abbrev pub is_number : List ℕ → Bool
is_number bs = is_numeral bs && nat_le (count_by is_ascii_digit bs) MOST_DIGITS

-- the digits of 10 ^ 18 times a number with these digits before and behind its point
abbrev pub all_digits : List ℕ → List ℕ → List ℕ
all_digits whole fraction = whole ++ (fraction ++ replicate (18 - length fraction) 48)

abbrev pub digits_at : List ℕ → Option ℕ → List ℕ
digits_at bs None = all_digits bs []
digits_at bs (Some i) = all_digits (take i bs) (drop (i + 1) bs)

-- 10 ^ 18 times the number that these bytes are without a sign
abbrev pub magnitude : List ℕ → ℕ
magnitude bs = digits_value 10 (digits_at bs (position is_point bs))

abbrev pub value_of : List ℕ → ℤ
value_of [] = pos 0
value_of (b ∷ bs) = if b == 45 then pos 0 -ℤ pos (magnitude bs) else pos (magnitude (b ∷ bs))

abbrev pub number_of : List ℕ → Option ℤ
number_of bs = if is_number bs then Some (value_of bs) else None

-- the whole number of a numeral without a point
abbrev pub whole_value : List ℕ → ℤ
whole_value [] = pos 0
whole_value (b ∷ bs) = if b == 45 then pos 0 -ℤ pos (digits_value 10 bs) else pos (digits_value 10 (b ∷ bs))

-- what $INCREMENT and a comparison count with: canonical integers of at most 18 digits
abbrev pub integer_of : List ℕ → Option ℤ
integer_of bs = if is_number bs && not (list_any is_point bs) then Some (whole_value bs) else None

abbrev pub integer_text : ℤ → List ℕ
integer_text (pos n) = decimal n
integer_text (negsuc n) = 45 ∷ decimal (suc n)

-- at most 18 digits
abbrev pub is_counted : ℤ → Bool
is_counted n = nat_lt (nat_abs n) (10 ^ 18)
