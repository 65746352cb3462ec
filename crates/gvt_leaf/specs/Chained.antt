-- What a chain of leaves shows.
use Rattle.std.specs.Prelude.{ℕ, ◌++◌, ◌+◌, List, take, drop, slice_index_or, [], refl}
use Rattle.std.specs.Coded.{Coded, code_by, coded×, coded_list, coded_ℕ}
use Rattle.std.specs.List.{flat_map}
use Rattle.journal_defs.specs.Leaves.{Cell}
use Rattle.block_pool.specs.Code.{Pool, pool_code}

pub record Chained : Type 0 where
  -- the cells of each leaf, in the chain's order
  pub leaves : List (List Cell)
  -- the blocks; the room is how many leaves more there may be without memory
  pub pool : Pool

abbrev pub chained_code : Coded Chained
chained_code = code_by (List (List Cell) × Pool) (coded× (coded_list (coded_list (coded× (coded_list coded_ℕ) (coded_list coded_ℕ)))) pool_code) (λ c. (c.leaves, c.pool)) (λ p. record { leaves = p.0; pool = p.1 }) (λ _. refl)

-- the cells of the leaf at i
abbrev pub leaf_cells : List (List Cell) → ℕ → List Cell
leaf_cells leaves i = slice_index_or leaves i []

-- the cells of all leaves
abbrev pub all_cells : List (List Cell) → List Cell
all_cells leaves = flat_map (λ l. l) leaves

-- the leaves with others in place of the one at i
abbrev pub replaced : List (List Cell) → ℕ → List (List Cell) → List (List Cell)
replaced leaves i news = take i leaves ++ (news ++ drop (i + 1) leaves)
