use Rattle.std.proofs.Common.{◌<◌, List, length, sym, subst, arith}
use Rattle.journal_defs.specs.Leaves.{Cell}
use Rattle.gvt_leaf.specs.Chained.{leaf_cells}
use Rattle.gvt_leaf.proofs.LeafLists.{leaf_filled, some_cells}
use Rattle.gvt_leaf.proofs.touched.end_under.Goals as goal

pub key-requires : goal.key-requires
key-requires c =
    let leaves = c.args.chain.now.leaves in
    let end = c.loop-end.end in
    let low : end < length leaves = omega (arith, c.loop-end-test.true, c.len-count.ensures.len) in
    subst (λ (l : List Cell). 0 < length l) (sym c.leaf.ensures)
    (some_cells (leaf_cells leaves end) (leaf_filled leaves end c.requires.rising.filled low (omega (arith, c.loop-end.invariant.order))))
