-- What always holds of the ends of a link in memory.
use Rattle.std.specs.Prelude.{◌≡◌, ℕ, ◌+◌, Bool, true, false, IsTrue, List, [], ◌∷◌, ◌++◌, if◌then◌else◌, refl}
use Rattle.std.specs.Prelude.{◌≤◌, nat_lt, Option, Some, None, option_map}
use native.Mathlib.Omega.{arith}
use Rattle.std.proofs.lemmas.Bool.{ltb-false}
use Rattle.repl_link.specs.Items.{Symbol, Byte, End, bytes_of, has_end, symbol_of, code_of}

-- an end that has ended the sending knows no free place
pub no_place_free : (finished : Bool) (free : ℕ) → IsTrue finished → (if finished then 0 else free) ≡ 0
no_place_free true free is = refl
no_place_free false free is = cc

-- behind the mark of the end, items add no other one
pub has_end-ended : (xs ys : List Symbol) → IsTrue (has_end xs) → IsTrue (has_end (xs ++ ys))
has_end-ended [] ys is = cc
has_end-ended (Byte b ∷ xs) ys is = has_end-ended xs ys is
has_end-ended (End ∷ xs) ys is = refl

-- once the mark of the end was taken out of the ring, the end is known and nothing is unread
pub all_was_read : (received known : List Symbol) (ended : Bool) → has_end received ≡ ended → IsTrue ended
    → IsTrue (has_end (received ++ known)) × ((if ended then [] else bytes_of known) ≡ [])
all_was_read received known true all is = (has_end-ended received known all, refl)
all_was_read received known false all is = cc

code_of_test : (n : ℕ) (b : Bool) → nat_lt n 256 ≡ b → n ≤ 256 → code_of (if b then Byte n else End) ≡ n
code_of_test n true is h = refl
code_of_test n false is h = let high = ltb-false n 256 is in omega (arith, high, h)

-- the number that stands for a symbol is the one that it was told by
pub code_of_symbol : (n : ℕ) → n ≤ 256 → code_of (symbol_of n) ≡ n
code_of_symbol n h = code_of_test n (nat_lt n 256) refl h

-- what has no order has nothing left before a cut
pub none_left : (moved : ℕ) (left : Option ℕ) → option_map (λ most. most + moved) left ≡ None → left ≡ None
none_left moved None none = refl
none_left moved (Some most) none = cc
