-- What two lists share, and histories of reigns (GT.M: the resync sequence number; the history records of the instance file).
use Rattle.std.specs.Prelude.{◌≡◌, ℕ, ◌+◌, ◌≤◌, nat_le, List, [], ◌∷◌, ◌++◌, length, take, Option, Some, None, if◌then◌else◌}
use Rattle.std.specs.Option.{option_or}
use Rattle.global_defs.specs.Entry.{Stamp, Reign}

-- b begins with a
abbrev pub IsPrefix : {X : Type 0} → List X → List X → Type 0
IsPrefix {X} a b = (rest : List X) × (b ≡ a ++ rest)

-- Two lists share their first t elements, and not one more.
pub record IsCommon {X : Type 0} (t : ℕ) (xs ys : List X) : Type 0 where
  pub in_first : t ≤ length xs
  pub in_second : t ≤ length ys
  pub same : take t xs ≡ take t ys
  pub no_more : t + 1 ≤ length xs → t + 1 ≤ length ys → take (t + 1) xs ≡ take (t + 1) ys → ⊥

-- a sequence's length, and its reigns in the order of their starts
pub record History : Type 0 where
  pub length : ℕ
  pub reigns : List Reign

-- the stamp of an entry's number: that of the last reign that has begun by then
abbrev pub stamp_at : ℕ → List Reign → Option Stamp
stamp_at n [] = None
stamp_at n (r ∷ rs) = option_or (stamp_at n rs) (if nat_le r.start n then Some r.stamp else None)
