-- Bytes that begin with parts of an encoded key.
use Rattle.std.specs.Prelude.{◌≡◌, ℕ, ◌+◌, ◌-◌, ◌≤◌, ◌<◌, ◌==◌, ◌&&◌, ◌||◌, Bool, true, false, not, List, [], ◌∷◌, ◌++◌, length, take, slice_index, nat_le}
use Rattle.std.specs.List.{AllByRecursion}
use Rattle.std.specs.Char.{is_ascii_digit}
use Rattle.global_defs.specs.declared.limits.TheConstants.{LONGEST_NAME}
use Rattle.global_defs.specs.Key.{Sub}
use Rattle.global_defs.specs.Valid.{is_name, is_sub}
use Rattle.global_defs.specs.Encoded.{encoded_sub}

-- a name of so many characters, the byte that ends it, and others
pub record BeginWithName (n : ℕ) (bytes : List ℕ) : Type 0 where
  pub name : List ℕ
  pub behind : List ℕ
  pub code : bytes ≡ name ++ 0 ∷ behind
  pub long : length name ≡ n
  pub short : n ≤ LONGEST_NAME
  pub valid : is_name name ≡ true

-- a subscript of so many bytes, and others
pub record BeginWithSub (n : ℕ) (bytes : List ℕ) : Type 0 where
  pub sub : Sub
  pub behind : List ℕ
  pub code : bytes ≡ encoded_sub sub ++ behind
  pub long : length (encoded_sub sub) ≡ n
  pub valid : is_sub sub ≡ true

-- the bytes of a subscript
abbrev pub IsSubCode : List ℕ → Type 0
IsSubCode bytes = (s : Sub) × (is_sub s ≡ true) × (bytes ≡ encoded_sub s)

-- A text that may stand for a subscript's: at most so long, with this first byte, of bytes from the one below `low` up to `most`, and
-- the last none below `low`.
pub record MayStand (low most longest head : ℕ) (text : List ℕ) : Type 0 where
  pub some : 0 < length text
  pub few : length text ≤ longest
  pub first : slice_index text 0 ≡ head
  pub inner : AllByRecursion (λ b. (low ≤ b + 1) × (b ≤ most)) text
  pub last : low ≤ slice_index text (length text - 1)

-- The subscript of so many bytes is some, a text, and a 0, and any text that may stand for this one makes it a subscript, too.
pub record HasText (from low most longest n : ℕ) (bytes : List ℕ) : Type 0 where
  pub text : List ℕ
  pub is : take n bytes ≡ take from bytes ++ (text ++ 0 ∷ [])
  pub long : from + length text + 1 ≡ n
  pub some : 0 < length text
  pub inner : AllByRecursion (λ b. (low ≤ b + 1) × (b ≤ most)) text
  pub can : (other : List ℕ) → MayStand low most longest (slice_index text 0) other → IsSubCode (take from bytes ++ (other ++ 0 ∷ []))

-- a string of so many bytes behind the byte of its kind
abbrev pub BeginWithText : ℕ → List ℕ → Type 0
BeginWithText n bytes = BeginWithSub (n + 1) (4 ∷ bytes)

-- a positive number of so many bytes behind the byte of its kind
abbrev pub BeginWithWhole : ℕ → List ℕ → Type 0
BeginWithWhole n bytes = BeginWithSub (n + 1) (3 ∷ bytes)

-- numerals begin with a digit, a sign or a point
abbrev pub begins_numeral : ℕ → Bool
begins_numeral b = is_ascii_digit b || b == 45 || b == 46

-- the digits of a whole number up to the last that isn't 0, by the byte of its exponent
abbrev pub is_whole_number : ℕ → List ℕ → Bool
is_whole_number exponent [] = false
is_whole_number exponent (d ∷ ds) = not (d == 48) && not (slice_index (d ∷ ds) (length (d ∷ ds) - 1) == 48) && nat_le (64 + length (d ∷ ds)) exponent && nat_le exponent 82
