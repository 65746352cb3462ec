use Rattle.std.proofs.Common.{◌≡◌, ◌≤◌, ◌-◌}
use Rattle.gvt_leaf.proofs.chain.Chain.reserve.Given as goal

abbrev pub invariant-loop-self : goal.invariant-loop-self
invariant-loop-self l = record {
  leaves : l.self.leaves ≡ l.fn.self.leaves;
  blocks : l.self.pool.leaves ≡ l.fn.self.pool.leaves;
  dirty : l.self.pool.dirty ≡ l.fn.self.pool.dirty;
  kept : l.fn.self.pool.room ≤ l.self.pool.room;
}

abbrev pub decreases-loop-self : goal.decreases-loop-self
decreases-loop-self l = l.more - l.self.pool.room
