-- Blocks of a database file, and the chain of leaves, in this project's layout.
use Rattle.std.specs.Prelude.{◌≡◌, ◌≢◌, ℕ, ◌-◌, ◌^◌, ◌<◌, ◌≤◌, List, [], ◌∷◌, ◌++◌, length, replicate, map, Option, Some, IsTrue}
use Rattle.std.specs.declared.cmp.Ordering.TheVariants.{Less}
use Rattle.std.specs.Ordering.{nat_cmp}
use Rattle.std.specs.Cmp.Lexicographic.{slice_cmp}
use Rattle.std.specs.Int.{to_be_bytes, w16, w32}
use Rattle.std.specs.List.{AllByRecursion, flat_map}
use Rattle.std.specs.FinMap as globals
use Rattle.global_defs.specs.declared.limits.TheConstants.{LONGEST_VALUE}
use Rattle.global_defs.specs.Key.{Key}
use Rattle.global_defs.specs.Valid.{is_key}
use Rattle.global_defs.specs.Encoded.{encoded}
use Rattle.global_defs.specs.Entry.{Globals}
use Rattle.global_defs.specs.Fields.{short, long}

-- an encoded key and its value
abbrev pub Cell : Type 0
Cell = List ℕ × List ℕ

-- a block
pub record Leaf : Type 0 where
  -- the next leaf's block, 0 where there is none
  pub next : ℕ
  pub cells : List Cell

abbrev pub spelled_cell : Cell → List ℕ
spelled_cell c = short c.0 ++ long c.1

abbrev pub cell_bytes : Leaf → List ℕ
cell_bytes l = flat_map spelled_cell l.cells

-- how many bytes of a block are left for cells
abbrev pub ROOM : ℕ
ROOM = 4088

-- the number of cells, the number of their bytes, the next leaf, the cells, and zeros
abbrev pub spelled_leaf : Leaf → List ℕ
spelled_leaf l = to_be_bytes w16 (length l.cells) ++ (to_be_bytes w16 (length (cell_bytes l)) ++ (to_be_bytes w32 l.next ++ (cell_bytes l ++ replicate (ROOM - length (cell_bytes l)) 0)))

-- the bytes of a key that there is
abbrev pub IsEncoded : List ℕ → Type 0
IsEncoded bytes = (key : Key) × IsTrue (is_key key) × (bytes ≡ encoded key)

abbrev pub IsCell : Cell → Type 0
IsCell c = IsEncoded c.0 × (length c.1 ≤ LONGEST_VALUE)

-- keys rise byte by byte
abbrev pub KeysRise : List Cell → Type 0
KeysRise [] = Unit {0}
KeysRise (c ∷ []) = Unit {0}
KeysRise (c ∷ d ∷ cs) = (slice_cmp nat_cmp c.0 d.0 ≡ Less) × KeysRise (d ∷ cs)

pub record IsLeaf (l : Leaf) : Type 0 where
  pub next : l.next < 2 ^ 32
  pub fits : length (cell_bytes l) ≤ ROOM
  pub cells : AllByRecursion IsCell l.cells
  pub rising : KeysRise l.cells

-- these bytes are the block of this leaf
pub record IsBlock (bytes : List ℕ) (l : Leaf) : Type 0 where
  pub form : IsLeaf l
  pub spelled : bytes ≡ spelled_leaf l

-- the leaf stands at block b
abbrev pub StandsAt : (ℕ → Option (List ℕ)) → ℕ → Leaf → Type 0
StandsAt blocks b l = (bytes : List ℕ) × (blocks b ≡ Some bytes) × IsBlock bytes l

-- these are the leaves of the chain from block b on
abbrev pub IsChain : (ℕ → Option (List ℕ)) → ℕ → List Leaf → Type 0
IsChain blocks b [] = ⊥
IsChain blocks b (l ∷ []) = StandsAt blocks b l × (l.next ≡ 0)
IsChain blocks b (l ∷ m ∷ ls) = StandsAt blocks b l × (l.next ≢ 0) × IsChain blocks l.next (m ∷ ls)

-- block 0 alone may be empty
abbrev pub HaveCells : List Leaf → Type 0
HaveCells [] = Unit {0}
HaveCells (l ∷ ls) = AllByRecursion (λ m. m.cells ≢ []) ls

-- the globals' keys in their order, encoded, with their values
abbrev pub cells_of : Globals → List Cell
cells_of g = map (λ e. (encoded e.0, e.1)) (globals.entries g)

-- the blocks decode, leaf by leaf from block 0, to these globals
abbrev pub Decodes : (ℕ → Option (List ℕ)) → Globals → Type 0
Decodes blocks g = (leaves : List Leaf) × IsChain blocks 0 leaves × HaveCells leaves × (flat_map (λ l. l.cells) leaves ≡ cells_of g)
