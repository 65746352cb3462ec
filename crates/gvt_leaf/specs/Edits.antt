-- Leaves between the steps of a change.
use Rattle.std.specs.Prelude.{◌≡◌, ◌≢◌, ◌≤◌, ◌+◌, ℕ, true, false, List, [], ◌∷◌, length, take, drop, if◌then◌else◌, nat_eq, not, filter}
use Rattle.std.specs.List.{AllByRecursion, starts_with}
use Rattle.std.specs.Ordering.{nat_cmp}
use Rattle.std.specs.Cmp.Lexicographic.{slice_cmp}
use Rattle.std.specs.FinMap as globals
use Rattle.journal_defs.specs.Leaves.{Cell, ROOM, spelled_cell}
use Rattle.block_fmt.specs.Cells.{size_of, BelongsAt}
use Rattle.gvt_leaf.specs.Chained.{leaf_cells, all_cells, replaced}
use Rattle.gvt_leaf.specs.declared.edits.Cut.{Cut}

-- how many bytes a cell takes
abbrev pub cell_size : Cell → ℕ
cell_size c = length (spelled_cell c)

-- A cut of a leaf in which a cell of so many bytes belongs at a place: both parts have room, the one with the cell too.
pub record Fits (cells : List Cell) (place size : ℕ) (cut : Cut) : Type 0 where
  pub inside : cut.at ≤ length cells
  pub ahead : cut.behind ≡ false → place ≤ cut.at
  pub behind : cut.behind ≡ true → cut.at ≤ place
  pub before : size_of (take cut.at cells) + (if cut.behind then 0 else size) ≤ ROOM
  pub after : size_of (drop cut.at cells) + (if cut.behind then size else 0) ≤ ROOM

-- in place of a leaf stand some with its cells and a key's one, and each of them has cells
pub record HasPut (old new : List (List Cell)) (i : ℕ) (key value : List ℕ) : Type 0 where
  pub first : List Cell
  pub more : List (List Cell)
  pub are : new ≡ replaced old i (first ∷ more)
  pub together : all_cells (first ∷ more) ≡ globals.put (slice_cmp nat_cmp) key value (leaf_cells old i)
  pub some : first ≢ []
  pub others : AllByRecursion (λ l. l ≢ []) more

-- a leaf has other cells in which a key belongs at a place, and with its cell the same as before
pub record IsOpened (old new : List (List Cell)) (i : ℕ) (key : List ℕ) (place : ℕ) : Type 0 where
  pub rest : List Cell
  pub are : new ≡ replaced old i (rest ∷ [])
  pub belongs : BelongsAt rest key place
  pub same : (value : List ℕ) → globals.put (slice_cmp nat_cmp) key value rest ≡ globals.put (slice_cmp nat_cmp) key value (leaf_cells old i)

-- all leaves but the first and the one at i have cells
pub record AreFilledBut (leaves : List (List Cell)) (i : ℕ) : Type 0 where
  pub before : AllByRecursion (λ l. l ≢ []) (drop 1 (take i leaves))
  pub behind : AllByRecursion (λ l. l ≢ []) (drop (i + 1) leaves)

-- the cells whose keys don't begin with these bytes
abbrev pub outside : List ℕ → List Cell → List Cell
outside code cells = filter (λ c. not (starts_with nat_eq c.0 code)) cells
