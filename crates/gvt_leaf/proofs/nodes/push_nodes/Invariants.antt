use Rattle.std.proofs.Common.{◌≡◌, ◌-◌, ◌++◌, true, map, take, drop}
use Rattle.std.specs.List.{AllByRecursion}
use Rattle.global_defs.specs.Valid.{is_key}
use Rattle.gvt_leaf.specs.Listed.{node_cell}
use Rattle.gvt_leaf.proofs.nodes.push_nodes.Given as goal

abbrev pub invariant-loop-i : goal.invariant-loop-i
invariant-loop-i l = record {
  nodes : map node_cell l.list.items ≡ map node_cell l.fn.list.items ++ take (l.i - l.from) (drop l.from l.leaf.cells);
  keys : AllByRecursion (λ n. is_key n.key ≡ true) l.fn.list.items → AllByRecursion (λ n. is_key n.key ≡ true) l.list.items;
}
