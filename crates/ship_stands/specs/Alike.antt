-- Entries that are all alike.
use Rattle.std.specs.Prelude.{ℕ, ◌%◌, ◌^◌, List, ◌∷◌, ◌++◌}
use Rattle.std.specs.Int.{to_be_bytes, w32, w64}

-- The bytes of the entry of that number, whose count and updates are these: the first updater's, with the number as its serial.
abbrev pub entry_of : (updates : List ℕ) → ℕ → List ℕ
entry_of updates n = to_be_bytes w64 n ++ 1 ∷ to_be_bytes w32 (n % 2 ^ 32) ++ updates
