-- Two lists of nodes that share out one ordered list.
use Rattle.std.specs.Prelude.{◌≡◌, ℕ, Bool, true, false, not, List, [], ◌∷◌, map, filter, reverse}
use Rattle.std.specs.Ordering.{is_lt}
use Rattle.global_defs.specs.Key.{Key, key_cmp}
use Rattle.gvt_leaf.specs.declared.nodes.Node.{Node}
use Rattle.gvt_leaf.specs.Listed.{node_value}

abbrev pub Nodes : Type 0
Nodes = List (Key × List ℕ)

-- nodes from the last one on
abbrev pub from_end : List Node → Nodes
from_end ns = map node_value (reverse ns)

-- The first list has the nodes that pass a test, and the second one the others.
pub record AreShared (all first second : Nodes) (p : Key → Bool) : Type 0 where
  pub passed : filter (λ e. p e.0) all ≡ first
  pub others : filter (λ e. not (p e.0)) all ≡ second

-- whether the first list's first node comes before the second one's
abbrev pub comes_first : Nodes → Nodes → Bool
comes_first [] ys = false
comes_first (x ∷ xs) [] = true
comes_first (x ∷ xs) (y ∷ ys) = is_lt (key_cmp x.0 y.0)

-- A node is taken from the front of one of two lists, where it comes first.
pub data IsTaken (x : Key × List ℕ) (xs ys more others : Nodes) : Type 0 where
  First : comes_first xs ys ≡ true → xs ≡ x ∷ more → ys ≡ others → IsTaken x xs ys more others
  Second : comes_first xs ys ≡ false → ys ≡ x ∷ others → xs ≡ more → IsTaken x xs ys more others
