use Rattle.std.proofs.Common.{◌≡◌, ◌+◌, length}
use Rattle.gvt_leaf.specs.Chained.{all_cells}
use Rattle.gvt_leaf.specs.Clean.{KeepsClean}
use Rattle.gvt_leaf.specs.Edits.{outside}
use Rattle.gvt_leaf.specs.Order.{AreRising}
use Rattle.gvt_leaf.proofs.edits.kill.Given as goal

-- the cells that begin otherwise stay, and those that are gone are counted
abbrev pub invariant-loop-some : goal.invariant-loop-some
invariant-loop-some l = record {
  rising : AreRising l.chain.leaves;
  kept : outside l.code (all_cells l.chain.leaves) ≡ outside l.code (all_cells l.fn.chain.leaves);
  gone : length (all_cells l.fn.chain.leaves) ≡ length (all_cells l.chain.leaves) + (l.count + l.some);
  none : l.some ≡ 0 → outside l.code (all_cells l.chain.leaves) ≡ all_cells l.chain.leaves;
  room : l.chain.pool.room ≡ l.fn.chain.pool.room;
  clean : KeepsClean l.fn.chain.pool l.chain.pool;
}

abbrev pub decreases-loop-some : goal.decreases-loop-some
decreases-loop-some l = length (all_cells l.chain.leaves) + l.some
