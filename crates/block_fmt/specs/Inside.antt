-- What a block in memory stands for.
use Rattle.std.specs.Prelude.{◌≡◌, ◌≤◌, length, vec_capacity}
use Rattle.std.specs.List.{flat_map}
use Rattle.journal_defs.specs.Leaves.{Leaf, spelled_cell, IsLeaf}
use Rattle.block_fmt.specs.Read.{cells_in, places}
use Rattle.block_fmt.specs.declared.block.Block.TheInside.{Inside}

abbrev pub leaf_of : Inside → Leaf
leaf_of b = record { next = b.next; cells = cells_in (length b.places.items) b.bytes.items }

-- the block holds this leaf, and has memory for all that has room in it
pub record Holds (b : Inside) (l : Leaf) : Type 0 where
  pub next : b.next ≡ l.next
  pub bytes : b.bytes.items ≡ flat_map spelled_cell l.cells
  pub places : b.places.items ≡ places 0 l.cells
  pub form : IsLeaf l
  pub byte_room : 4088 ≤ vec_capacity b.bytes
  pub place_room : 817 ≤ vec_capacity b.places
