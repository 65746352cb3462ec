-- Where the chain of a pool's leaves breaks.
use Rattle.std.specs.Prelude.{◌≡◌, ◌≢◌, ◌⊎◌, ◌≤◌, ◌<◌, ◌-◌, ◌==◌, ◌&&◌, ◌||◌, ℕ, Bool, true, false, List, [], ◌∷◌, ◌++◌, length, map, drop, not, count_by, slice_index_or}
use Rattle.std.specs.List.{AllByRecursion}
use Rattle.std.specs.Ordering.{nat_cmp, is_lt}
use Rattle.std.specs.Cmp.Lexicographic.{slice_cmp}
use Rattle.journal_defs.specs.Leaves.{Cell, IsLeaf}
use Rattle.block_fmt.specs.Cells.{cell_at}
use Rattle.block_pool.specs.Code.{Pool}
use Rattle.block_pool.specs.Pool.{leaf_at}
use Rattle.gvt_leaf.specs.Links.{first_or, Lead, times, one_if}
use Rattle.gvt_leaf.specs.Order.{AreRising}

-- the cells of these blocks, block by block
abbrev pub leaves_of : Pool → List ℕ → List (List Cell)
leaves_of p numbers = map (λ b. (leaf_at p b).cells) numbers

-- cells that are there and whose keys are past those of others
abbrev pub go_on : List Cell → List Cell → Bool
go_on before cells = not (length cells == 0) && (length before == 0 || is_lt (slice_cmp nat_cmp (cell_at before (length before - 1)).0 (cell_at cells 0).0))

-- A walk that has been at the marked blocks goes on from one leaf to this block.
pub record Follows (p : Pool) (seen : List Bool) (last b : ℕ) : Type 0 where
  pub there : b < length p.leaves
  pub new : slice_index_or seen b true ≡ false
  pub form : IsLeaf (leaf_at p b)
  pub rising : go_on (leaf_at p last).cells (leaf_at p b).cells ≡ true

-- it doesn't: the block isn't there, the walk has been at it, or with its cells the keys don't rise on
abbrev pub Breaks : Pool → List Bool → ℕ → ℕ → Type 0
Breaks p seen last b = (length p.leaves ≤ b) ⊎ (((b < length p.leaves) × (slice_index_or seen b true ≡ true)) ⊎ (IsLeaf (leaf_at p b) × (go_on (leaf_at p last).cells (leaf_at p b).cells ≡ false)))

-- The chain of leaves from block 0 on comes to this block with rising keys, and breaks there: the block isn't there, or with its cells
-- the keys don't rise any more, or it has none behind the first leaf.
pub record BreaksAt (p : Pool) (b : ℕ) : Type 0 where
  -- the leaves before it
  pub before : List ℕ
  pub first : first_or b before ≡ 0
  pub led : Lead (leaf_at p) before b
  pub others : AllByRecursion (λ c. c ≢ 0) (drop 1 (before ++ b ∷ []))
  pub inside : AllByRecursion (λ c. c < length p.leaves) before
  pub forms : AllByRecursion (λ c. IsLeaf (leaf_at p c)) before
  pub risen : AreRising (leaves_of p before)
  pub broken : (length p.leaves ≤ b) ⊎ (IsLeaf (leaf_at p b) × (AreRising (leaves_of p (before ++ b ∷ [])) → ⊥))

-- The leaves of the chain up to one of them, and of each block whether it's among these.
pub record IsWalked (p : Pool) (order : List ℕ) (seen : List Bool) (last : ℕ) : Type 0 where
  pub first : first_or 1 order ≡ 0
  pub ends : (front : List ℕ) × (order ≡ front ++ last ∷ [])
  pub led : Lead (leaf_at p) order (leaf_at p last).next
  pub others : AllByRecursion (λ c. c ≢ 0) (drop 1 order)
  pub inside : AllByRecursion (λ c. c < length p.leaves) order
  pub forms : AllByRecursion (λ c. IsLeaf (leaf_at p c)) order
  pub risen : AreRising (leaves_of p order)
  pub marks : length seen ≡ length p.leaves
  pub apart : (b : ℕ) → times b order ≡ one_if (slice_index_or seen b false)
  pub count : length order ≡ count_by (λ s. s) seen

-- All leaves of a chain from block 0 to its end.
pub record AreWalked (p : Pool) (order : List ℕ) (seen : List Bool) : Type 0 where
  pub last : ℕ
  pub walked : IsWalked p order seen last
  pub ends : (leaf_at p last).next ≡ 0
