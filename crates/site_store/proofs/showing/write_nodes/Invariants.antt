use Rattle.std.proofs.Common.{◌≡◌, ◌++◌, take, map}
use Rattle.std.specs.List.{flat_map}
use Rattle.gvt_leaf.specs.Listed.{node_value}
use Rattle.site_defs.specs.Texts.{node_line}
use Rattle.site_store.proofs.showing.write_nodes.Given as goal

abbrev pub invariant-loop-node : goal.invariant-loop-node
invariant-loop-node l = l.out ≡ l.fn.out ++ flat_map node_line (map node_value (take l.node-index l.nodes))
