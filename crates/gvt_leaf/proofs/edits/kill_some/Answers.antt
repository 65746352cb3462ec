use Rattle.std.proofs.Common.{◌≡◌, ◌+◌, List, sym, subst, arith}
use Rattle.journal_defs.specs.Leaves.{Cell}
use Rattle.gvt_leaf.specs.Chained.{leaf_cells, all_cells}
use Rattle.gvt_leaf.specs.Edits.{outside}
use Rattle.gvt_leaf.proofs.LeafLists.{leaf_filled, some_cells}
use Rattle.gvt_leaf.proofs.Killed.{low_here, none_here, none_next, none_behind}
use Rattle.gvt_leaf.proofs.edits.kill_some.Goals as goal

pub returns-then-from-len-clause-none : goal.returns-then-from-len-clause-none
returns-then-from-len-clause-none c =
    let leaves = c.args.chain.now.leaves in
    let code = c.args.code.now in
    let i = c.seat-i.result in
    let from = c.place_of-from.result in
    let cells = c.leaf-leaf.result.now.cells in
    let p = c.place_of-from.ensures in
    λ zero. subst (λ (ls : List (List Cell)). outside code (all_cells ls) ≡ all_cells ls) (sym (c.cut_run.ensures.none zero))
    (none_here leaves code i from c.requires c.seat-i.ensures cells c.leaf-leaf.ensures p.before p.behind (omega (arith, c.if-from-len.true, c.len.ensures.len))
    (c.cut_run.ensures.end zero (low_here leaves code i from c.requires c.seat-i.ensures cells c.leaf-leaf.ensures p.before p.behind (omega (arith, c.if-from-len.true, c.len.ensures.len)))))

pub returns-then-i-count-clause-none : goal.returns-then-i-count-clause-none
returns-then-i-count-clause-none c =
    let leaves = c.args.chain.now.leaves in
    let code = c.args.code.now in
    let i = c.seat-i.result in
    let from = c.place_of-from.result in
    let cells = c.leaf-leaf.result.now.cells in
    let p = c.place_of-from.ensures in
    λ zero. subst (λ (ls : List (List Cell)). outside code (all_cells ls) ≡ all_cells ls) (sym (c.cut_run-then-i-count.ensures.none zero))
    (none_next leaves code i from c.requires c.seat-i.ensures cells c.leaf-leaf.ensures p.before p.behind (omega (arith, c.if-from-len.false, c.len.ensures.len)) (omega (arith, c.if-i-count.true, c.len-count.ensures.len))
    (c.cut_run-then-i-count.ensures.end zero (some_cells (leaf_cells leaves (i + 1)) (leaf_filled leaves (i + 1) c.requires.filled (omega (arith, c.if-i-count.true, c.len-count.ensures.len)) (omega arith)))))

pub returns-else-i-count-clause-none : goal.returns-else-i-count-clause-none
returns-else-i-count-clause-none c =
    let leaves = c.args.chain.now.leaves in
    let p = c.place_of-from.ensures in
    λ zero. none_behind leaves c.args.code.now c.seat-i.result c.place_of-from.result c.requires c.seat-i.ensures c.leaf-leaf.result.now.cells c.leaf-leaf.ensures p.before p.behind (omega (arith, c.if-from-len.false, c.len.ensures.len))
    (omega (arith, c.if-i-count.false, c.len-count.ensures.len))
