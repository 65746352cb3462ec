use Rattle.std.proofs.Common.{◌≡◌, length, take}
use Rattle.gvt_leaf.specs.Chained.{all_cells}
use Rattle.gvt_leaf.proofs.chain.Chain.count_cells.Given as goal

abbrev pub invariant-loop-i : goal.invariant-loop-i
invariant-loop-i l = l.count ≡ length (all_cells (take l.i l.self.leaves))
