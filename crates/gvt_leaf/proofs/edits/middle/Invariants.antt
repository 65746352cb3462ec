use Rattle.std.proofs.Common.{◌<◌, ◌≤◌, ◌+◌, ◌-◌, ◌*◌, length, take}
use Rattle.block_fmt.specs.Cells.{size_of}
use Rattle.gvt_leaf.proofs.edits.middle.Given as goal

abbrev pub invariant-loop-high : goal.invariant-loop-high
invariant-loop-high l = record {
  order : l.low < l.high;
  inside : l.high ≤ length l.leaf.cells + 1;
  at : 2 * size_of (take l.low l.leaf.cells) ≤ size_of l.leaf.cells;
  more : l.high ≤ length l.leaf.cells → size_of l.leaf.cells < 2 * size_of (take l.high l.leaf.cells);
}

abbrev pub decreases-loop-high : goal.decreases-loop-high
decreases-loop-high l = l.high - l.low
