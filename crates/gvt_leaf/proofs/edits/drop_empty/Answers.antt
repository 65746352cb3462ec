use Rattle.std.proofs.Common.{ap, sym, ◌∙◌, arith, true≢false}
use Rattle.gvt_leaf.specs.Chained.{all_cells}
use Rattle.gvt_leaf.proofs.TakenOut.{gone_cells, kept_filled}
use Rattle.gvt_leaf.proofs.edits.drop_empty.Goals as goal

pub returns-then-is_empty-clause-cells : goal.returns-then-is_empty-clause-cells
returns-then-is_empty-clause-cells c =
    ap all_cells c.unlink_behind.ensures.leaves
    ∙ gone_cells c.args.chain.now.leaves c.args.i c.requires.inside (omega (arith, c.if-i-eq0.false)) (sym c.leaf.ensures ∙ c.is_empty.ensures.0 c.if-is_empty.true)

pub returns-else-is_empty-clause-filled : goal.returns-else-is_empty-clause-filled
returns-else-is_empty-clause-filled c =
    kept_filled c.args.chain.now.leaves c.args.i (omega (arith, c.if-i-eq0.false)) c.requires.inside c.requires.filled
    (λ e. true≢false (sym (c.is_empty.ensures.1 (c.leaf.ensures ∙ e)) ∙ c.if-is_empty.false))
