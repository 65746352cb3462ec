-- Encoded keys read back.
use Rattle.std.specs.Prelude.{◌≡◌, ℕ, zero, suc, ◌+◌, ◌-◌, ◌==◌, ◌&&◌, Bool, true, false, not, List, [], ◌∷◌, ◌++◌, length, take, drop, map, position, slice_index, replicate, Option, Some, None, nat_le, if◌then◌else◌, IsTrue}
use Rattle.std.specs.List.{list_all, flat_map}
use Rattle.std.specs.Char.{is_ascii_digit}
use Rattle.std.specs.Str.Parse.{digits_value}
use Rattle.global_defs.specs.declared.limits.TheConstants.{MOST_SUBS}
use Rattle.global_defs.specs.Key.{Key, Sub, sub_of}
use Rattle.global_defs.specs.Encoded.{encoded, encoded_sub}
use Rattle.global_defs.specs.NodeText.{magnitude_text, sub_bytes}
use Rattle.global_defs.specs.Valid.{is_key, is_sub}
use Rattle.global_defs.specs.Zwr.{zwr}
use Rattle.global_defs.specs.Entry.{is_under}
use Rattle.global_defs.specs.Evaluation.{first_sub}

-- what decoding bytes gives: the key that has these bytes, nothing where no key has them
abbrev pub Decodes : List ℕ → Option Key → Type 0
Decodes bytes None = (key : Key) → is_key key ≡ true → encoded key ≡ bytes → ⊥
Decodes bytes (Some key) = (is_key key ≡ true) × (encoded key ≡ bytes)

-- the bytes of a key that there is
abbrev pub IsCode : List ℕ → Type 0
IsCode bytes = (key : Key) × IsTrue (is_key key) × (bytes ≡ encoded key)

-- the subscript at the level below the top one, where the key is one of its descendants
abbrev pub sub_below : Key → Key → Option Sub
sub_below top key = if is_under top key then first_sub (drop (length top.subs) key.subs) else None

-- The functions below read what encoding writes. Of other bytes they read something or nothing.

-- the byte that ends a subscript that begins with this one
abbrev pub end_byte : ℕ → ℕ
end_byte kind = if kind == 2 then 2 else (if kind == 1 then 255 else 0)

-- where the first subscript ends
abbrev pub sub_end : List ℕ → Option ℕ
sub_end bytes = position (λ b. b == end_byte (slice_index bytes 0)) bytes

-- a string's bytes from their escaped form, perhaps behind the first byte of an escape
abbrev pub unescaped : Bool → List ℕ → List ℕ
unescaped escaping [] = []
unescaped true (b ∷ bytes) = (b - 1) ∷ unescaped false bytes
unescaped false (b ∷ bytes) = if b == 1 then unescaped true bytes else b ∷ unescaped false bytes

-- so many digits at most, and 36 at most
abbrev pub are_digits : ℕ → List ℕ → Bool
are_digits count digits = nat_le count 36 && nat_le (length digits) count && list_all is_ascii_digit digits

-- digits with zeros behind them, so many in all
abbrev pub padded : ℕ → List ℕ → List ℕ
padded count digits = digits ++ replicate (count - length digits) 48

-- digits of 10 ^ 18 times a whole number with so many digits
abbrev pub are_whole : ℕ → List ℕ → Bool
are_whole count [] = false
are_whole count (d ∷ digits) = not (d == 48) && nat_le (length (d ∷ digits) + 18) count

abbrev pub signed_text : Bool → List ℕ → List ℕ
signed_text negative text = if negative then 45 ∷ text else text

-- a numeral by the count of digits of 10 ^ 18 times its number, and these digits up to the last that isn't 0
abbrev pub number_read : Bool → ℕ → List ℕ → Option (List ℕ)
number_read negative count digits = if are_digits count digits then Some (signed_text negative (magnitude_text (digits_value 10 (padded count digits)))) else None

abbrev pub positive_read : List ℕ → Option (List ℕ)
positive_read [] = None
positive_read (exponent ∷ digits) = number_read false (exponent - 46) digits

abbrev pub negative_read : List ℕ → Option (List ℕ)
negative_read [] = None
negative_read (exponent ∷ digits) = number_read true (209 - exponent) (map (λ d. 105 - d) digits)

-- what adding a text that was read does: it stands behind what was there, and it is told whether there is one
abbrev pub AddsRead : Option (List ℕ) → List ℕ → List ℕ → Bool → Type 0
AddsRead None old new found = found ≡ false
AddsRead (Some text) old new found = (found ≡ true) × (new ≡ old ++ text)

-- a subscript's text from its encoded form without the last byte
abbrev pub text_read : List ℕ → Option (List ℕ)
text_read [] = Some (48 ∷ [])
text_read (kind ∷ bytes) = if kind == 4 then Some (zwr (unescaped false bytes)) else (if kind == 3 then positive_read bytes else (if kind == 1 then negative_read bytes else None))

-- what adding a subscript's text does, where there is one
abbrev pub AddsText : Option (List ℕ) → List ℕ → List ℕ → Type 0
AddsText None old new = Unit {0}
AddsText (Some text) old new = new ≡ old ++ text

-- a subscript's own bytes from its encoded form without the last byte
abbrev pub sub_read : List ℕ → Option (List ℕ)
sub_read [] = Some (48 ∷ [])
sub_read (kind ∷ bytes) = if kind == 4 then Some (unescaped false bytes) else (if kind == 3 then positive_read bytes else (if kind == 1 then negative_read bytes else None))

-- the own bytes of the first subscript, by where it ends
abbrev pub first_read : Option ℕ → List ℕ → Option (List ℕ)
first_read None bytes = None
first_read (Some last) bytes = sub_read (take last bytes)

-- what reading subscripts gives: their own bytes, nothing only where no subscripts have this form
abbrev pub ReadsSubs : List ℕ → Option (List (List ℕ)) → Type 0
ReadsSubs bytes None = (subs : List Sub) → list_all is_sub subs ≡ true → flat_map encoded_sub subs ≡ bytes → ⊥
ReadsSubs bytes (Some texts) = (subs : List Sub) → list_all is_sub subs ≡ true → flat_map encoded_sub subs ≡ bytes → texts ≡ map sub_bytes subs

-- what stands behind the first subscript, by where that ends
abbrev pub behind_first : Option ℕ → List ℕ → List ℕ
behind_first None bytes = []
behind_first (Some last) bytes = drop (last + 1) bytes

-- a subscript by its own bytes before others, none where it can't be read
abbrev pub before_others : Option (List ℕ) → List Sub → List Sub
before_others None subs = []
before_others (Some text) subs = sub_of text ∷ subs

-- at most so many subscripts, one after another
unfoldable pub subs_read : ℕ → List ℕ → List Sub
subs_read zero bytes = []
subs_read (suc most) bytes = before_others (first_read (sub_end bytes) bytes) (subs_read most (behind_first (sub_end bytes) bytes))

-- a key by where its name ends
abbrev pub key_cut : Option ℕ → List ℕ → Key
key_cut None bytes = record { name = bytes; subs = [] }
key_cut (Some end) bytes = record { name = take end bytes; subs = subs_read MOST_SUBS (drop (end + 1) bytes) }

-- the key that has these bytes as its encoded form, where some key has
unfoldable pub key_read : List ℕ → Key
key_read bytes = key_cut (position (λ b. b == 0) bytes) bytes

-- the bytes of the key that they are read to
pub record IsKept (code : List ℕ) : Type 0 where
  pub valid : is_key (key_read code) ≡ true
  pub encodes : code ≡ encoded (key_read code)
