use Rattle.std.proofs.Common.{◌≡◌, length, List, ap, ◌∙◌, arith}
use Rattle.std.proofs.lemmas.List.{take_all}
use Rattle.journal_defs.specs.Leaves.{Cell}
use Rattle.gvt_leaf.specs.Chained.{leaf_cells, all_cells}
use Rattle.gvt_leaf.proofs.Still.{count_more}
use Rattle.gvt_leaf.proofs.chain.Chain.count_cells.Goals as goal

pub loop-i-preserved : goal.loop-i-preserved
loop-i-preserved c =
    let leaves = c.args.self.now.leaves in
    let here : length c.leaf.result.now.cells ≡ length (leaf_cells leaves c.loop-i.i) = ap (λ (cs : List Cell). length cs) c.leaf.ensures in
    omega (arith, c.loop-i.invariant, c.in-Some.ensures, c.len.ensures.len, here, count_more leaves c.loop-i.i (omega (arith, c.loop-i-test.true, c.len-i-end.ensures.len)))

pub returns : goal.returns
returns c =
    let leaves = c.args.self.now.leaves in
    c.loop-i.invariant ∙ ap (λ (ls : List (List Cell)). length (all_cells ls)) (take_all c.loop-i.i leaves (omega (arith, c.loop-i-test.false, c.len-i-end.ensures.len)))
