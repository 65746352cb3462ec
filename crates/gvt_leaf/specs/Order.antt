-- Cells in the order of their keys, and where a key stands among leaves.
use Rattle.std.specs.Prelude.{◌≢◌, ◌<◌, ◌+◌, ℕ, List, [], ◌∷◌, take, drop, length}
use Rattle.std.specs.List.{AllByRecursion}
use Rattle.journal_defs.specs.Leaves.{Cell}
use Rattle.block_fmt.specs.Cells.{AreBelow, AreAbove}
use Rattle.gvt_leaf.specs.Chained.{all_cells}

-- each key is below those behind it
abbrev pub Rise : List Cell → Type 0
Rise [] = Unit {0}
Rise (c ∷ cs) = AreAbove cs c.0 × Rise cs

-- leaves with rising keys all along, of which the first alone may be empty
pub record AreRising (leaves : List (List Cell)) : Type 0 where
  pub rise : Rise (all_cells leaves)
  pub filled : AllByRecursion (λ l. l ≢ []) (drop 1 leaves)

-- the leaf in which a key stands or would stand
pub record IsSeat (leaves : List (List Cell)) (key : List ℕ) (i : ℕ) : Type 0 where
  pub inside : i < length leaves
  pub before : AreBelow (all_cells (take i leaves)) key
  pub behind : AreAbove (all_cells (drop (i + 1) leaves)) key
