-- Blocks that name one another, and how often a number stands in a list.
use Rattle.std.specs.Prelude.{◌≡◌, ℕ, ◌+◌, ◌==◌, Bool, List, [], ◌∷◌, nat_lt, if◌then◌else◌}
use Rattle.journal_defs.specs.Leaves.{Leaf}

-- the first of these numbers, or else that one
abbrev pub first_or : ℕ → List ℕ → ℕ
first_or e [] = e
first_or e (b ∷ bs) = b

-- each of these blocks names the one behind it, and the last one names e
abbrev pub Lead : (ℕ → Leaf) → List ℕ → ℕ → Type 0
Lead leaf [] e = Unit {0}
Lead leaf (b ∷ bs) e = ((leaf b).next ≡ first_or e bs) × Lead leaf bs e

-- 1 where the test holds, else 0
abbrev pub one_if : Bool → ℕ
one_if holds = if holds then 1 else 0

-- how often a number stands there
abbrev pub times : ℕ → List ℕ → ℕ
times b [] = 0
times b (n ∷ ns) = one_if (n == b) + times b ns

-- 1 where a number is below the count, else 0
abbrev pub inside : ℕ → ℕ → ℕ
inside b count = one_if (nat_lt b count)
