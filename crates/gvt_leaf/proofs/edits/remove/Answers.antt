use Rattle.std.proofs.Common.{List, subst, arith}
use Rattle.journal_defs.specs.Leaves.{Cell}
use Rattle.block_fmt.specs.Cells.{StandsIn, BelongsAt}
use Rattle.block_fmt.proofs.Changed.{leaf_few}
use Rattle.gvt_leaf.proofs.TakenOut.{removed_cells, removed_none}
use Rattle.gvt_leaf.proofs.edits.remove.Goals as goal

pub overflow_add-place : goal.overflow_add-place
overflow_add-place c = omega (arith, c.in-Ok.ensures.found.inside, leaf_few c.leaf.result.now c.in-Ok.ensures.form)

pub returns-in-Ok-clause-cells : goal.returns-in-Ok-clause-cells
returns-in-Ok-clause-cells c =
    removed_cells c.args.chain.now.leaves c.take_out.new.chain.leaves c.args.key.now c.seat-i.result c.in-Ok.place c.seat-i.ensures
    (subst (λ (l : List Cell). StandsIn l c.args.key.now c.in-Ok.place) c.leaf.ensures c.in-Ok.ensures.found) c.take_out.ensures.cells

pub returns-in-Err-clause-cells : goal.returns-in-Err-clause-cells
returns-in-Err-clause-cells c =
    removed_none c.args.chain.now.leaves c.args.chain.now.leaves c.args.key.now c.seat-i.result c.in-Err.field-0 c.seat-i.ensures
    (subst (λ (l : List Cell). BelongsAt l c.args.key.now c.in-Err.field-0) c.leaf.ensures c.in-Err.ensures.place)
