use Rattle.std.proofs.Common.{◌≡◌, ◌<◌, ◌≤◌, ◌+◌, ◌++◌, true, filter, map, length, take, drop, nat_eq}
use Rattle.std.specs.List.{AllByRecursion, starts_with}
use Rattle.global_defs.specs.Valid.{is_key}
use Rattle.gvt_leaf.specs.Chained.{leaf_cells, all_cells}
use Rattle.gvt_leaf.specs.Listed.{node_cell}
use Rattle.gvt_leaf.proofs.TakenOut.{AreNotBefore}
use Rattle.gvt_leaf.proofs.nodes.nodes_under.Given as goal

-- the nodes before a place of a leaf, behind which no cell is before the bytes
abbrev pub invariant-loop-i : goal.invariant-loop-i
invariant-loop-i l = record {
  place : l.i < length l.chain.leaves → l.from ≤ length (leaf_cells l.chain.leaves l.i);
  listed : map node_cell l.list.items ≡ filter (λ c. starts_with nat_eq c.0 l.code) (all_cells (take l.i l.chain.leaves) ++ take l.from (leaf_cells l.chain.leaves l.i));
  later : AreNotBefore (drop l.from (leaf_cells l.chain.leaves l.i) ++ all_cells (drop (l.i + 1) l.chain.leaves)) l.code;
  keys : AllByRecursion (λ n. is_key n.key ≡ true) l.list.items;
}
