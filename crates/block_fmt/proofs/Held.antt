-- A block in memory and its leaf.
use Rattle.std.proofs.Common.{◌≡◌, ℕ, ◌+◌, ◌≤◌, ◌<◌, List, [], ◌++◌, length, take, drop, get_or, flat_map, vec_len, sym, ◌∙◌, ap, subst, arith}
use Rattle.std.proofs.lemmas.List.{take_all}
use Rattle.journal_defs.specs.Leaves.{Cell, Leaf, spelled_cell, IsCell}
use Rattle.block_fmt.specs.Cells.{cell_at, size_of}
use Rattle.block_fmt.specs.Read.{first_cell, cells_in, BeginWithCell, AreCells}
use Rattle.block_fmt.specs.Inside.{leaf_of, Holds}
use Rattle.block_fmt.specs.declared.block.Block.TheInside.{Inside}
use Rattle.block_fmt.proofs.Lists.{all_at, drop_next}
use Rattle.block_fmt.proofs.ReadBack.{first_is, cells_in_is}
use Rattle.block_fmt.proofs.CellPlaces.{length-places, place_at, bytes_drop}

pub held : (b : Inside) (l : Leaf) → Holds b l → leaf_of b ≡ l
held b l h =
    let count : length b.places.items ≡ length l.cells = ap length h.places ∙ length-places 0 l.cells in
    let cells : cells_in (length b.places.items) b.bytes.items ≡ l.cells =
    ap (λ (n : ℕ). cells_in n b.bytes.items) count ∙ ap (cells_in (length l.cells)) h.bytes ∙ cells_in_is l.cells h.form.cells in
    let next = h.next in
    λ i. record { next = next i; cells = cells i }

pub holds_own : (b : Inside) (l : Leaf) → Holds b l → Holds b (leaf_of b)
holds_own b l h = subst (Holds b) (sym (held b l h)) h

pub holds_view : (b : Inside) (l : Leaf) → leaf_of b ≡ l → Holds b (leaf_of b) → Holds b l
holds_view b l is h = subst (Holds b) is h

pub held_count : (b : Inside) (l : Leaf) → Holds b l → length b.places.items ≡ length l.cells
held_count b l h = ap length h.places ∙ length-places 0 l.cells

pub held_place : (b : Inside) (l : Leaf) (i d : ℕ) → Holds b l → i < length l.cells → get_or b.places.items i d ≡ size_of (take i l.cells)
held_place b l i d h inside = ap (λ (ps : List ℕ). get_or ps i d) h.places ∙ place_at 0 l.cells i d inside ∙ (let same : 0 + size_of (take i l.cells) ≡ size_of (take i l.cells) = omega arith in same)

-- all cells are the first ones
pub all_size : (l : Leaf) (i : ℕ) → length l.cells ≤ i → size_of l.cells ≡ size_of (take i l.cells)
all_size l i all = ap size_of (sym (take_all i l.cells all))

-- how many there are
pub place_count : (b : Inside) (l : Leaf) → Holds b l → vec_len b.places ≡ length l.cells
place_count b l h = omega (arith, held_count b l h, b.places.ok.0)

pub byte_count : (b : Inside) (l : Leaf) → Holds b l → vec_len b.bytes ≡ size_of l.cells
byte_count b l h = omega (arith, ap length h.bytes, b.bytes.ok.0)

-- a block's own bytes are its cells
pub held_are_cells : (b : Inside) (l : Leaf) → Holds b l → AreCells (length b.places.items) b.bytes.items
held_are_cells b l h = record {
  cells = l.cells;
  count = sym (held_count b l h);
  is = h.bytes;
  forms = h.form.cells;
  rising = h.form.rising;
}

-- the bytes from the cell at i on
bytes_from : (b : Inside) (l : Leaf) (i at : ℕ) → Holds b l → i < length l.cells → at ≡ size_of (take i l.cells) → drop at b.bytes.items ≡ spelled_cell (cell_at l.cells i) ++ flat_map spelled_cell (drop (i + 1) l.cells)
bytes_from b l i at h inside is =
    ap (λ (k : ℕ). drop k b.bytes.items) is ∙ ap (drop (size_of (take i l.cells))) h.bytes ∙ bytes_drop i l.cells ∙ ap (λ (cs : List Cell). flat_map spelled_cell cs) (drop_next l.cells i ([], []) inside)

-- the cell at i stands at its place
pub cell_begins : (b : Inside) (l : Leaf) (i at : ℕ) → Holds b l → i < length l.cells → at ≡ size_of (take i l.cells) → BeginWithCell (drop at b.bytes.items)
cell_begins b l i at h inside is = record {
  cell = cell_at l.cells i;
  rest = flat_map spelled_cell (drop (i + 1) l.cells);
  short = (all_at IsCell l.cells i ([], []) h.form.cells inside).1;
  is = bytes_from b l i at h inside is;
}

pub cell_first : (b : Inside) (l : Leaf) (i at : ℕ) → Holds b l → i < length l.cells → at ≡ size_of (take i l.cells) → first_cell (drop at b.bytes.items) ≡ cell_at l.cells i
cell_first b l i at h inside is =
    let few = (all_at IsCell l.cells i ([], []) h.form.cells inside).1 in
    ap first_cell (bytes_from b l i at h inside is) ∙ first_is (cell_at l.cells i) (flat_map spelled_cell (drop (i + 1) l.cells)) (omega (arith, few))
