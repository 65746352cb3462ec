-- Cells read from bytes, and the places where they begin.
use Rattle.std.specs.Prelude.{◌≡◌, ◌≤◌, ◌<◌, ℕ, zero, suc, ◌+◌, ◌-◌, ◌^◌, List, [], ◌∷◌, ◌++◌, length, take, drop}
use Rattle.std.specs.declared.cmp.Ordering.TheVariants.{Less}
use Rattle.std.specs.Ordering.{nat_cmp}
use Rattle.std.specs.Cmp.Lexicographic.{slice_cmp}
use Rattle.std.specs.Int.{from_be_bytes, w16}
use Rattle.std.specs.List.{AllByRecursion, flat_map}
use Rattle.global_defs.specs.declared.limits.TheConstants.{LONGEST_VALUE}
use Rattle.journal_defs.specs.Leaves.{Cell, spelled_cell, IsCell, IsEncoded, KeysRise}

-- the cell that these bytes begin with, where they begin with one
abbrev pub first_cell : List ℕ → Cell
first_cell [] = ([], [])
first_cell (k ∷ rest) = (take k rest, take (from_be_bytes w16 (take 2 (drop k rest))) (drop (2 + k) rest))

-- so many cells, one behind another
abbrev pub cells_in : ℕ → List ℕ → List Cell
cells_in zero bytes = []
cells_in (suc n) bytes = first_cell bytes ∷ cells_in n (drop (length (spelled_cell (first_cell bytes))) bytes)

-- where cells begin that stand from this place on
abbrev pub places : ℕ → List Cell → List ℕ
places at [] = []
places at (c ∷ cs) = at ∷ places (at + length (spelled_cell c)) cs

-- These bytes begin with a cell whose value isn't too long.
pub record BeginWithCell (bytes : List ℕ) : Type 0 where
  pub cell : Cell
  pub rest : List ℕ
  pub short : length cell.1 ≤ LONGEST_VALUE
  pub is : bytes ≡ spelled_cell cell ++ rest

-- At a place stands a cell with a key, which is past that of the cell at `last` unless it is the first.
pub record IsNextCell (bytes : List ℕ) (last at : ℕ) : Type 0 where
  pub begin : BeginWithCell (drop at bytes)
  pub key : IsEncoded (first_cell (drop at bytes)).0
  pub past : 0 < at → slice_cmp nat_cmp (first_cell (drop last bytes)).0 (first_cell (drop at bytes)).0 ≡ Less

-- bytes with a part of them at a place written over
abbrev pub written : List ℕ → ℕ → List ℕ → List ℕ
written bytes at part = take at bytes ++ (part ++ drop (at + length part) bytes)

-- all places moved by as much as the first one
abbrev pub moved : ℕ → ℕ → ℕ → ℕ
moved old new p = p - old + new

-- no place is before the first one, and none moves too far
abbrev pub CanMove : ℕ → ℕ → List ℕ → Type 0
CanMove old new ps = AllByRecursion (λ p. (old ≤ p) × (moved old new p < 2 ^ 16)) ps

-- These bytes are the cells of a block, so many, and their keys rise.
pub record AreCells (n : ℕ) (bytes : List ℕ) : Type 0 where
  pub cells : List Cell
  pub count : length cells ≡ n
  pub is : bytes ≡ flat_map spelled_cell cells
  pub forms : AllByRecursion IsCell cells
  pub rising : KeysRise cells
