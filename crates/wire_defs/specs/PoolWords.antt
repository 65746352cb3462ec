-- The journal pool as words of 8 bytes. (GT.M: the journal pool, a circular buffer with an early write address and a write address. The layout in words is this project's own.)
use Rattle.std.specs.Prelude.{◌≡◌, ℕ, suc, ◌+◌, ◌-◌, ◌/◌, ◌<◌, ◌≤◌, List, [], ◌∷◌, ◌++◌, length, take, slice_index, ◌==◌, if◌then◌else◌}
use Rattle.std.specs.Int.{w64, to_be_bytes, from_be_bytes}

-- the number whose eight bytes these are, the highest first
abbrev pub word_of : ℕ → ℕ → ℕ → ℕ → ℕ → ℕ → ℕ → ℕ → ℕ
word_of a b c d e f g h = from_be_bytes w64 (a ∷ b ∷ c ∷ d ∷ e ∷ f ∷ g ∷ h ∷ [])

-- bytes in words of 8, the last filled with zeros
abbrev pub packed : List ℕ → List ℕ
packed [] = []
packed (a ∷ []) = word_of a 0 0 0 0 0 0 0 ∷ []
packed (a ∷ b ∷ []) = word_of a b 0 0 0 0 0 0 ∷ []
packed (a ∷ b ∷ c ∷ []) = word_of a b c 0 0 0 0 0 ∷ []
packed (a ∷ b ∷ c ∷ d ∷ []) = word_of a b c d 0 0 0 0 ∷ []
packed (a ∷ b ∷ c ∷ d ∷ e ∷ []) = word_of a b c d e 0 0 0 ∷ []
packed (a ∷ b ∷ c ∷ d ∷ e ∷ f ∷ []) = word_of a b c d e f 0 0 ∷ []
packed (a ∷ b ∷ c ∷ d ∷ e ∷ f ∷ g ∷ []) = word_of a b c d e f g 0 ∷ []
packed (a ∷ b ∷ c ∷ d ∷ e ∷ f ∷ g ∷ h ∷ rest) = word_of a b c d e f g h ∷ packed rest

-- the bytes of words, one word after another
abbrev pub unpacked : List ℕ → List ℕ
unpacked [] = []
unpacked (w ∷ ws) = to_be_bytes w64 w ++ unpacked ws

-- an entry's words: its number, its length in bytes, and its bytes
abbrev pub entry_words : ℕ → List ℕ → List ℕ
entry_words number bytes = number ∷ length bytes ∷ packed bytes

-- the bytes that an entry's words hold
abbrev pub bytes_in : List ℕ → List ℕ
bytes_in [] = []
bytes_in (number ∷ []) = []
bytes_in (number ∷ len ∷ body) = take len (unpacked body)

-- how many words an entry of so many bytes has
abbrev pub word_count : ℕ → ℕ
word_count bytes = 2 + (bytes + 7) / 8

-- the words of these entries, the first of which has the number `first`; the word of address a is the one at a
abbrev pub words_from : ℕ → List (List ℕ) → List ℕ
words_from first [] = []
words_from first (e ∷ es) = entry_words first e ++ words_from (first + 1) es

-- the place of the entry that k others stand before: how many words those have
abbrev pub place_of : ℕ → List (List ℕ) → ℕ → ℕ
place_of first entries k = length (words_from first (take k entries))

-- an entry at this place is whole in a pool of so many words at this claimed count
abbrev pub IsWhole : ℕ → ℕ → ℕ → Type 0
IsWhole capacity claimed place = claimed ≤ place + capacity

-- each member is a byte
abbrev pub AreBytes : List ℕ → Type 0
AreBytes bytes = (k : ℕ) → slice_index bytes k < 256

-- the one list begins with the other
abbrev pub StartsWith : List (List ℕ) → List (List ℕ) → Type 0
StartsWith entries front = (back : List (List ℕ)) × (entries ≡ front ++ back)

-- at this place an entry begins or the last one ends
abbrev pub IsBoundary : ℕ → List (List ℕ) → ℕ → Type 0
IsBoundary first entries place = (front : List (List ℕ)) × (back : List (List ℕ)) × (entries ≡ front ++ back) × (place ≡ length (words_from first front))

-- the same, and the number of the entry that begins there, or is the next after the last
abbrev pub IsAt : ℕ → List (List ℕ) → ℕ → ℕ → Type 0
IsAt first entries place number = (front : List (List ℕ)) × (back : List (List ℕ)) × (entries ≡ front ++ back) × (place ≡ length (words_from first front)) × (number ≡ first + length front)

-- how many of the entries end at this place or before it
abbrev pub count_before : List (List ℕ) → ℕ → ℕ
count_before [] place = 0
count_before (e ∷ es) place = if place == 0 then 0 else suc (count_before es (place - word_count (length e)))
