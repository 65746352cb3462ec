use Rattle.std.proofs.Common.{◌≡◌, ◌-◌, length}
use Rattle.block_pool.specs.Pool.{leaf_at}
use Rattle.gvt_leaf.specs.Walked.{IsWalked}
use Rattle.gvt_leaf.proofs.walk.walk.Given as goal

abbrev pub invariant-loop-number : goal.invariant-loop-number
invariant-loop-number l = record {
  walked : IsWalked l.pool l.order.items l.seen.items l.last;
  next : l.number ≡ (leaf_at l.pool l.last).next;
}

abbrev pub decreases-loop-number : goal.decreases-loop-number
decreases-loop-number l = length l.seen.items - length l.order.items
