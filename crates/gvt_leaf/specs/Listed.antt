-- Nodes in a list.
use Rattle.std.specs.Prelude.{ℕ, List}
use Rattle.global_defs.specs.Key.{Key}
use Rattle.global_defs.specs.Encoded.{encoded}
use Rattle.journal_defs.specs.Leaves.{Cell}
use Rattle.gvt_leaf.specs.declared.nodes.Node.{Node}

abbrev pub node_value : Node → Key × List ℕ
node_value n = (n.key, n.value.now)

-- the cell of a node
abbrev pub node_cell : Node → Cell
node_cell n = (encoded n.key, n.value.now)
