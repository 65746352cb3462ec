use Rattle.std.proofs.Common.{◌≤◌, ◌-◌, length, take, drop}
use Rattle.block_fmt.specs.Cells.{AreBelow, AreAbove}
use Rattle.block_fmt.proofs.block.Block.find.Given as goal

abbrev pub invariant-loop-low : goal.invariant-loop-low
invariant-loop-low l = record {
  order : l.low ≤ l.high;
  inside : l.high ≤ length l.self.cells;
  below : AreBelow (take l.low l.self.cells) l.key;
  above : AreAbove (drop l.high l.self.cells) l.key;
}

abbrev pub decreases-loop-low : goal.decreases-loop-low
decreases-loop-low l = l.high - l.low
