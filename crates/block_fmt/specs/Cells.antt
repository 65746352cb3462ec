-- The cells of a block: where a key stands among them, and what putting one does.
use Rattle.std.specs.Prelude.{◌≡◌, ◌≤◌, ◌<◌, ℕ, ◌+◌, List, [], ◌∷◌, ◌++◌, length, take, drop, slice_index_or}
use Rattle.std.specs.declared.cmp.Ordering.TheVariants.{Less, Greater}
use Rattle.std.specs.Ordering.{nat_cmp}
use Rattle.std.specs.Cmp.Lexicographic.{slice_cmp}
use Rattle.std.specs.List.{AllByRecursion, flat_map}
use Rattle.std.specs.FinMap as globals
use Rattle.journal_defs.specs.Leaves.{Cell, Leaf, spelled_cell}

-- a block with no cell that names no next one
abbrev pub blank : Leaf
blank = record { next = 0; cells = [] }

-- the cell that stands at i
abbrev pub cell_at : List Cell → ℕ → Cell
cell_at cells i = slice_index_or cells i ([], [])

-- the same leaf with other cells
abbrev pub with_cells : Leaf → List Cell → Leaf
with_cells l cells = record { next = l.next; cells = cells }

-- the same leaf with a key's cell: a new one stands at its place, an old one has the new value
abbrev pub with_cell : Leaf → List ℕ → List ℕ → Leaf
with_cell l key value = with_cells l (globals.put (slice_cmp nat_cmp) key value l.cells)

-- the cells without those from one place up to another
abbrev pub without_between : List Cell → ℕ → ℕ → List Cell
without_between cells from to = take from cells ++ drop to cells

-- how many bytes cells take
abbrev pub size_of : List Cell → ℕ
size_of cells = length (flat_map spelled_cell cells)

-- the keys of these cells are all smaller
abbrev pub AreBelow : List Cell → List ℕ → Type 0
AreBelow cells key = AllByRecursion (λ c. slice_cmp nat_cmp c.0 key ≡ Less) cells

-- the keys of these cells are all greater
abbrev pub AreAbove : List Cell → List ℕ → Type 0
AreAbove cells key = AllByRecursion (λ c. slice_cmp nat_cmp c.0 key ≡ Greater) cells

-- the key stands at i
pub record StandsIn (cells : List Cell) (key : List ℕ) (i : ℕ) : Type 0 where
  pub inside : i < length cells
  pub here : (cell_at cells i).0 ≡ key
  pub before : AreBelow (take i cells) key
  pub after : AreAbove (drop (i + 1) cells) key

-- the key isn't there, and would stand at i
pub record BelongsAt (cells : List Cell) (key : List ℕ) (i : ℕ) : Type 0 where
  pub inside : i ≤ length cells
  pub before : AreBelow (take i cells) key
  pub after : AreAbove (drop i cells) key

-- The cells that a key's cell takes the place of stand from i up to j: none, or the one of this key.
pub record TakesPlace (cells : List Cell) (key : List ℕ) (i j : ℕ) : Type 0 where
  pub order : i ≤ j
  pub one : j ≤ i + 1
  pub inside : j ≤ length cells
  pub before : AreBelow (take i cells) key
  pub after : AreAbove (drop j cells) key
  pub put : (value : List ℕ) → globals.put (slice_cmp nat_cmp) key value cells ≡ take i cells ++ (key, value) ∷ drop j cells
