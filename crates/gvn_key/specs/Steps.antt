-- Places in an encoded key: which one a byte leads to, and in how many bytes the key can end.
use Rattle.std.specs.Prelude.{ℕ, zero, suc, ◌+◌, ◌-◌, ◌==◌, ◌&&◌, ◌||◌, Bool, true, false, not, nat_lt, nat_le, min, Option, Some, None, if◌then◌else◌}
use Rattle.std.specs.Char.{is_ascii_alphabetic, is_ascii_alphanumeric, is_ascii_digit}
use Rattle.global_defs.specs.declared.limits.TheConstants.{LONGEST_NAME, MOST_SUBS}
use Rattle.gvn_key.specs.declared.digits.Last.{Last}
use Rattle.gvn_key.specs.declared.digits.Last.TheVariants.{Absent, Zero, Other}
use Rattle.gvn_key.specs.declared.digits.Number.{Number}
use Rattle.gvn_key.specs.declared.numeral_front.Numeral.{Numeral}
use Rattle.gvn_key.specs.declared.numeral_front.Numeral.TheVariants.{Empty, Nought, Minus, Whole, Fraction, Unlike}
use Rattle.gvn_key.specs.declared.place.Place.{Place}
use Rattle.gvn_key.specs.declared.place.Place.TheVariants.{Name, Boundary, Exponent, Digits, Text, Escape}

-- digits

abbrev pub last_of : ℕ → Last
last_of d = if d == 48 then Zero else Other

abbrev pub may_end : Last → Bool
may_end Absent = false
may_end Zero = false
may_end Other = true

abbrev pub is_absent : Last → Bool
is_absent Absent = true
is_absent Zero = false
is_absent Other = false

-- a digit's byte, and the digit of a byte
abbrev pub turned : Bool → ℕ → ℕ
turned negative d = if negative then 105 - d else d

-- the byte behind a number's digits
abbrev pub end_byte : Bool → ℕ
end_byte negative = if negative then 255 else 0

-- how many digits 10 ^ 18 times the number has, by the byte of its exponent
abbrev pub count_of : Bool → ℕ → ℕ
count_of negative b = if negative then 209 - b else b - 46

-- a number of so many digits before the first of them
abbrev pub unstarted : Bool → ℕ → Number
unstarted negative count = record { negative = negative; room = min count 18; last = Absent }

abbrev pub number_of : Bool → ℕ → Option Number
number_of negative b = if nat_le 1 (count_of negative b) && nat_le (count_of negative b) 36
    then Some (unstarted negative (count_of negative b))
    else None

abbrev pub takes_digit : Number → ℕ → Bool
takes_digit n d = is_ascii_digit d && nat_lt 0 n.room && not (is_absent n.last && d == 48)

abbrev pub with_digit : Number → ℕ → Number
with_digit n d = record { negative = n.negative; room = n.room - 1; last = last_of d }

abbrev pub digit_taken : Number → ℕ → Option Number
digit_taken n b = if takes_digit n (turned n.negative b) then Some (with_digit n (turned n.negative b)) else None

-- numerals

abbrev pub is_string : Numeral → Bool
is_string Empty = false
is_string Nought = false
is_string Minus = true
is_string (Whole n) = false
is_string (Fraction n last) = not (may_end last)
is_string Unlike = true

abbrev pub first_read : ℕ → Numeral
first_read b = if b == 46 then Fraction 0 Absent else (if nat_le 49 b && nat_le b 57 then Whole 1 else Unlike)

abbrev pub whole_digit : ℕ → ℕ → Numeral
whole_digit n b = if b == 46 then Fraction n Absent else (if is_ascii_digit b && nat_lt n 18 then Whole (n + 1) else Unlike)

abbrev pub fraction_digit : ℕ → ℕ → Numeral
fraction_digit n b = if is_ascii_digit b && nat_lt n 18 then Fraction (n + 1) (last_of b) else Unlike

abbrev pub numeral_read : Numeral → ℕ → Numeral
numeral_read Empty b = if b == 48 then Nought else (if b == 45 then Minus else first_read b)
numeral_read Nought b = Unlike
numeral_read Minus b = first_read b
numeral_read (Whole n) b = whole_digit n b
numeral_read (Fraction n last) b = fraction_digit n b
numeral_read Unlike b = Unlike

-- places

abbrev pub is_name_byte : ℕ → ℕ → Bool
is_name_byte n b = if n == 0 then (b == 37 || is_ascii_alphabetic b) else is_ascii_alphanumeric b

abbrev pub in_name : ℕ → ℕ → Option Place
in_name n b = if b == 0 && nat_lt 0 n then Some (Boundary MOST_SUBS) else (if is_name_byte n b && nat_lt n LONGEST_NAME then Some (Name (n + 1)) else None)

-- a subscript begins, and so many may stand behind it
abbrev pub begun : ℕ → ℕ → Option Place
begun behind b = if b == 1 then Some (Exponent behind true)
    else (if b == 2 then Some (Boundary behind)
    else (if b == 3 then Some (Exponent behind false)
    else (if b == 4 then Some (Text behind Empty) else None)))

abbrev pub at_boundary : ℕ → ℕ → Option Place
at_boundary zero b = None
at_boundary (suc behind) b = begun behind b

abbrev pub digits_at : ℕ → Option Number → Option Place
digits_at subs None = None
digits_at subs (Some number) = Some (Digits subs number)

abbrev pub at_exponent : ℕ → Bool → ℕ → Option Place
at_exponent subs negative b = digits_at subs (number_of negative b)

abbrev pub in_digits : ℕ → Number → ℕ → Option Place
in_digits subs number b = if b == end_byte number.negative && may_end number.last then Some (Boundary subs) else digits_at subs (digit_taken number b)

abbrev pub text_ended : ℕ → Numeral → Option Place
text_ended subs numeral = if is_string numeral then Some (Boundary subs) else None

abbrev pub in_text : ℕ → Numeral → ℕ → Option Place
in_text subs numeral b = if b == 0 then text_ended subs numeral else (if b == 1 then Some (Escape subs numeral) else Some (Text subs (numeral_read numeral b)))

abbrev pub in_escape : ℕ → Numeral → ℕ → Option Place
in_escape subs numeral b = if b == 1 then Some (Text subs (numeral_read numeral 0)) else (if b == 2 then Some (Text subs (numeral_read numeral 1)) else None)

abbrev pub step : Place → ℕ → Option Place
step (Name n) b = in_name n b
step (Boundary subs) b = at_boundary subs b
step (Exponent subs negative) b = at_exponent subs negative b
step (Digits subs number) b = in_digits subs number b
step (Text subs numeral) b = in_text subs numeral b
step (Escape subs numeral) b = in_escape subs numeral b

-- whether so many subscripts at most can have exactly so many bytes
abbrev pub fills : ℕ → ℕ → Bool
fills zero r = r == 0
fills (suc zero) r = not (r == 2)
fills (suc (suc n)) r = true

-- how many digits are still owed
abbrev pub least : Last → ℕ
least last = if may_end last then 0 else 1

-- so many bytes behind the least digits and the end, with room for so many digits more
abbrev pub spare_fits : ℕ → ℕ → ℕ → Bool
spare_fits zero room r = nat_le r room
spare_fits (suc zero) room r = not (r == 2) || nat_lt 0 room
spare_fits (suc (suc n)) room r = true

abbrev pub digits_fit : ℕ → Number → ℕ → Bool
digits_fit subs number r = nat_le (least number.last) number.room && nat_lt (least number.last) r && spare_fits subs (number.room - least number.last) (r - least number.last - 1)

abbrev pub fits : Place → ℕ → Bool
fits (Name n) r = if n == 0 then nat_le 2 r else nat_le 1 r
fits (Boundary subs) r = fills subs r
fits (Exponent subs negative) r = nat_le 3 r && (nat_lt 0 subs || nat_le r 20)
fits (Digits subs number) r = digits_fit subs number r
fits (Text subs numeral) r = nat_le 2 r || (r == 1 && is_string numeral)
fits (Escape subs numeral) r = nat_le 2 r
