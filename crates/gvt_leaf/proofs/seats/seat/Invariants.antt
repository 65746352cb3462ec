use Rattle.std.proofs.Common.{◌<◌, ◌≤◌, ◌-◌, length, take, drop}
use Rattle.block_fmt.specs.Cells.{AreBelow, AreAbove}
use Rattle.gvt_leaf.specs.Chained.{all_cells}
use Rattle.gvt_leaf.proofs.seats.seat.Given as goal

abbrev pub invariant-loop-high : goal.invariant-loop-high
invariant-loop-high l = record {
  order : l.low < l.high;
  inside : l.high ≤ length l.chain.leaves;
  before : AreBelow (all_cells (take l.low l.chain.leaves)) l.key;
  behind : AreAbove (all_cells (drop l.high l.chain.leaves)) l.key;
}

abbrev pub decreases-loop-high : goal.decreases-loop-high
decreases-loop-high l = l.high - l.low
