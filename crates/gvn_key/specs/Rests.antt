-- What completes a key at a place.
use Rattle.std.specs.Prelude.{◌≡◌, ℕ, zero, suc, ◌+◌, ◌-◌, ◌≤◌, ◌==◌, ◌&&◌, Bool, true, not, List, [], ◌∷◌, ◌++◌, length, map, if◌then◌else◌}
use Rattle.std.specs.List.{list_all, flat_map}
use Rattle.std.specs.Char.{is_ascii_alphanumeric, is_ascii_digit}
use Rattle.global_defs.specs.declared.limits.TheConstants.{LONGEST_KEY, LONGEST_NAME, MOST_SUBS}
use Rattle.global_defs.specs.Key.{Sub}
use Rattle.global_defs.specs.Valid.{is_name, is_sub}
use Rattle.global_defs.specs.Encoded.{encoded_sub, escaped}
use Rattle.gvn_key.specs.Codes.{IsCode, Begins}
use Rattle.gvn_key.specs.Steps.{turned, end_byte, may_end, last_of, is_absent, is_string, numeral_read, unstarted}
use Rattle.gvn_key.specs.declared.digits.Last.{Last}
use Rattle.gvn_key.specs.declared.digits.Number.{Number}
use Rattle.gvn_key.specs.declared.numeral_front.Numeral.{Numeral}
use Rattle.gvn_key.specs.declared.place.Place.{Place}
use Rattle.gvn_key.specs.declared.place.Place.TheVariants.{Name, Boundary, Exponent, Digits, Text, Escape}
use Rattle.gvn_key.specs.declared.prefix.KeyPrefix.{KeyPrefix}

-- so many subscripts at most, one after another
pub record AreSubs (most : ℕ) (bytes : List ℕ) : Type 0 where
  pub subs : List Sub
  pub valid : list_all is_sub subs ≡ true
  pub few : length subs ≤ most
  pub encode : flat_map encoded_sub subs ≡ bytes

-- the other characters of a name of which so many have come
abbrev pub is_name_end : ℕ → List ℕ → Bool
is_name_end zero name = is_name name
is_name_end (suc n) name = list_all is_ascii_alphanumeric name

-- the rest of a name, its end, and subscripts
pub record EndsName (count : ℕ) (bytes : List ℕ) : Type 0 where
  pub name : List ℕ
  pub behind : List ℕ
  pub is : bytes ≡ name ++ 0 ∷ behind
  pub valid : is_name_end count name ≡ true
  pub short : length name ≤ LONGEST_NAME - count
  pub subs : AreSubs MOST_SUBS behind

-- digits behind such a last one, none of them a leading or a trailing zero of the whole
abbrev pub end_well : Last → List ℕ → Bool
end_well last [] = may_end last
end_well last (d ∷ ds) = not (is_absent last && d == 48) && end_well (last_of d) ds

-- the rest of a number's digits, their end, and subscripts
pub record EndsDigits (most : ℕ) (number : Number) (bytes : List ℕ) : Type 0 where
  pub digits : List ℕ
  pub behind : List ℕ
  pub is : bytes ≡ map (turned number.negative) digits ++ end_byte number.negative ∷ behind
  pub all : list_all is_ascii_digit digits ≡ true
  pub few : length digits ≤ number.room
  pub well : end_well number.last digits ≡ true
  pub subs : AreSubs most behind

-- the exponent's byte of a number by the count of digits of 10 ^ 18 times it
abbrev pub exponent_byte : Bool → ℕ → ℕ
exponent_byte negative count = if negative then 209 - count else 46 + count

-- a number behind its sign, and subscripts
pub record EndsNumber (most : ℕ) (negative : Bool) (bytes : List ℕ) : Type 0 where
  pub count : ℕ
  pub rest : List ℕ
  pub is : bytes ≡ exponent_byte negative count ∷ rest
  pub some : 1 ≤ count
  pub few : count ≤ 36
  pub digits : EndsDigits most (unstarted negative count) rest

-- what bytes more make of the bytes so far
abbrev pub read_on : Numeral → List ℕ → Numeral
read_on numeral [] = numeral
read_on numeral (b ∷ bs) = read_on (numeral_read numeral b) bs

-- the rest of a string, its end, and subscripts
pub record EndsText (most : ℕ) (numeral : Numeral) (bytes : List ℕ) : Type 0 where
  pub more : List ℕ
  pub behind : List ℕ
  pub is : bytes ≡ flat_map escaped more ++ 0 ∷ behind
  pub string : is_string (read_on numeral more) ≡ true
  pub subs : AreSubs most behind

-- the bytes from a place to the end of a key, whatever their count
abbrev pub Completes : Place → List ℕ → Type 0
Completes (Name n) bytes = EndsName n bytes
Completes (Boundary subs) bytes = AreSubs subs bytes
Completes (Exponent subs negative) bytes = EndsNumber subs negative bytes
Completes (Digits subs number) bytes = EndsDigits subs number bytes
Completes (Text subs numeral) bytes = EndsText subs numeral bytes
Completes (Escape subs numeral) bytes = EndsText subs numeral (1 ∷ bytes)

-- A prefix stands behind these bytes of a key of that length: some key begins so, and the bytes that complete the prefix are
-- those that make the bytes taken a key's encoded form of that length.
pub record IsAt (prefix : KeyPrefix) (taken : List ℕ) (len : ℕ) : Type 0 where
  pub left : prefix.left + length taken ≡ len
  pub fits_length : len ≤ LONGEST_KEY
  pub completes : (rest : List ℕ) → Completes prefix.place rest → length rest ≡ prefix.left → IsCode len (taken ++ rest)
  pub completed : (rest : List ℕ) → IsCode len (taken ++ rest) → Completes prefix.place rest
  pub begins : Begins taken len
