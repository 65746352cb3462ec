-- The items of a ring that carries bytes and one mark of their end.
use Rattle.std.specs.Prelude.{◌≡◌, ℕ, Bool, true, false, List, [], ◌∷◌, ◌++◌, length, take, nat_lt, if◌then◌else◌}
use mathlib.Core.List.{IsPrefix}

-- what one place of a ring carries: a byte, or the mark behind the last byte
pub data Symbol : Type 0 where
  Byte : ℕ → Symbol
  End : Symbol

-- the number that stands for a symbol, and back
abbrev pub symbol_of : ℕ → Symbol
symbol_of n = if nat_lt n 256 then Byte n else End

abbrev pub code_of : Symbol → ℕ
code_of (Byte b) = b
code_of End = 256

-- whether a symbol is the mark
abbrev pub is_end : Symbol → Bool
is_end (Byte b) = false
is_end End = true

-- the bytes in front of the end
abbrev pub bytes_of : List Symbol → List ℕ
bytes_of [] = []
bytes_of (Byte b ∷ items) = b ∷ bytes_of items
bytes_of (End ∷ items) = []

abbrev pub has_end : List Symbol → Bool
has_end [] = false
has_end (Byte b ∷ items) = has_end items
has_end (End ∷ items) = true

-- the mark of the end is the last of them, where it is among them
abbrev pub EndsLast : List Symbol → Type 0
EndsLast [] = Unit {0}
EndsLast (x ∷ xs) = (is_end x ≡ true → xs ≡ []) × EndsLast xs

-- So many stand in front of the mark, and are all where it isn't among them.
pub record AreBefore (items : List Symbol) (n : ℕ) : Type 0 where
  pub plain : has_end (take n items) ≡ false
  pub bytes : bytes_of (take n items) ≡ bytes_of items
  pub end : has_end items ≡ nat_lt n (length items)

-- Items were taken out of a ring, of which some were known before: their bytes, and whether the end follows these.
pub record Drained (before after known known' : List Symbol) (bytes : List ℕ) (ended : Bool) : Type 0 where
  pub taken : List Symbol
  pub after_is : after ≡ before ++ taken
  pub known_first : IsPrefix known (taken ++ known')
  pub bytes_are : bytes ≡ bytes_of taken
  pub ended_is : has_end taken ≡ ended
