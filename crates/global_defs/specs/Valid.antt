-- Which keys there are (GT.M: names of at most 31 characters, 31 subscripts, no null subscripts; 255 bytes is this project's).
use Rattle.std.specs.Prelude.{ℕ, ◌&&◌, ◌||◌, ◌==◌, Bool, false, not, nat_lt, nat_le, List, [], ◌∷◌, length}
use Rattle.std.specs.List.{list_all}
use Rattle.std.specs.Char.{is_ascii_alphabetic, is_ascii_alphanumeric}
use Rattle.global_defs.specs.declared.limits.TheConstants.{LONGEST_KEY, LONGEST_NAME, MOST_SUBS}
use Rattle.global_defs.specs.Key.{Key, Sub, Number, Text}
use Rattle.global_defs.specs.Numeral.{is_number}
use Rattle.global_defs.specs.NodeText.{number_text}
use Rattle.global_defs.specs.Encoded.{encoded}

-- a percent sign or a letter, and then letters and digits
abbrev pub is_name : List ℕ → Bool
is_name [] = false
is_name (b ∷ bs) = (b == 37 || is_ascii_alphabetic b) && list_all is_ascii_alphanumeric bs

-- a number by its canonical numeral; a string that isn't empty and no such numeral
abbrev pub is_sub : Sub → Bool
is_sub (Number x) = is_number (number_text x)
is_sub (Text s) = nat_lt 0 (length s) && not (is_number s)

abbrev pub is_key : Key → Bool
is_key key = is_name key.name && nat_le (length key.name) LONGEST_NAME && list_all is_sub key.subs && nat_le (length key.subs) MOST_SUBS && nat_le (length (encoded key)) LONGEST_KEY
