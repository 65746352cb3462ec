-- What a writer and a reader keep between calls.
use Rattle.std.specs.Prelude.{◌≡◌, ℕ, ◌+◌, ◌*◌, ◌/◌, ◌%◌, ◌<◌, ◌≤◌, List, [], ◌∷◌, length, slice_index, take, Bool, MatchBool}
use Rattle.wire_defs.specs.PoolWords.{words_from, word_count, place_of, unpacked}
use Rattle.pool_rule.specs.declared.views.View.{View}

-- what the writer keeps: all that it claimed is written, and `starts` has the place of each entry that may be whole, by its number
pub record WriterKeeps (v : View) (size first number place hardened : ℕ) (starts : List ℕ) : Type 0 where
  pub same : (v.size ≡ size) × (v.first ≡ first)
  pub sizes : (16 ≤ size) × (size ≤ 1048576)
  pub number_is : number ≡ first + length v.entries
  pub place_is : place ≡ length (words_from first v.entries)
  pub all_written : v.written ≡ place
  pub hardened_is : (v.hardened ≡ place_of first v.entries hardened) × (hardened ≤ length v.entries)
  pub ring : length starts ≡ size / 2
  pub starts_are : (k : ℕ) → k < length v.entries → length v.entries ≤ k + length starts → slice_index starts ((first + k) % length starts) ≡ place_of first v.entries k

-- what a reader keeps: it holds no word, and has room for the bytes of any entry that may be whole
pub record ReaderKeeps (v : View) (size place room : ℕ) : Type 0 where
  pub same : (v.size ≡ size) × (v.place ≡ place)
  pub sizes : (16 ≤ size) × (size ≤ 1048576)
  pub room_is : 8 * size ≤ room
  pub none_held : v.held ≡ []

-- words with their addresses, from p on
abbrev pub addressed : ℕ → List ℕ → List (ℕ × ℕ)
addressed p [] = []
addressed p (x ∷ xs) = (p, x) ∷ addressed (p + 1) xs

-- what a reader fetched from its place on: the words of a whole entry, whose bytes it has, or the first two of one that has more words than these
pub record Fetched (v w : View) (place most : ℕ) (bytes : List ℕ) (whole : Bool) : Type 0 where
  pub number : ℕ
  pub len : ℕ
  pub body : List ℕ
  pub view : w ≡ record v { held = addressed place (number ∷ len ∷ body) }
  pub words : MatchBool whole ((length body ≡ (len + 7) / 8) × (bytes ≡ take len (unpacked body)) × (word_count len ≤ most)) ((body ≡ []) × (most < word_count len))
