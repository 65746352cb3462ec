-- Where the first byte of a kind stands.
use Rattle.std.specs.Prelude.{◌≡◌, ℕ, ◌+◌, ◌<◌, ◌≤◌, ◌==◌, if◌then◌else◌, Bool, true, false, List, slice_index}
use Rattle.std.specs.Int.{w64, trailing_zeros}

-- no byte passes from a place up to another
abbrev pub AllFail : (ℕ → Bool) → List ℕ → ℕ → ℕ → Type 0
AllFail p bytes from to = (k : ℕ) → from ≤ k → k < to → p (slice_index bytes k) ≡ false

-- Of so many bytes from a place on `run` don't pass, and then one does, or there are no more.
pub record IsFirstIn (p : ℕ → Bool) (bytes : List ℕ) (at n run : ℕ) : Type 0 where
  pub few : run ≤ n
  pub fail : AllFail p bytes at (at + run)
  pub passes : run < n → p (slice_index bytes (at + run)) ≡ true

-- the place of a mask's lowest bit, or this number where none is set
abbrev pub first_set : ℕ → ℕ → ℕ
first_set mask n = if mask == 0 then n else trailing_zeros w64 mask
