use Rattle.std.proofs.Common.{◌+◌, Bool, length, map}
use Rattle.std.specs.Prelude.{IsTrue}
use Rattle.std.specs.FinMap as globals
use Rattle.global_defs.specs.Key.{Key, key_cmp}
use Rattle.gvt_leaf.specs.Listed.{node_value}
use Rattle.region_store.specs.Merged.{Nodes, AreShared, from_end}
use Rattle.region_store.proofs.Sharing.{IsLeft}
use Rattle.region_store.proofs.merging.merged.Given as goal

abbrev pub invariant-loop-node : goal.invariant-loop-node
invariant-loop-node l = (all : Nodes) (p : Key → Bool) → IsTrue (globals.is_sorted key_cmp all) → AreShared all (map node_value l.fn.first.items) (map node_value l.fn.second.items) p → IsLeft all (map node_value l.all.items) (from_end l.first.items) (from_end l.second.items) p

abbrev pub decreases-loop-node : goal.decreases-loop-node
decreases-loop-node l = length l.first.items + length l.second.items
