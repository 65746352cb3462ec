use Rattle.std.proofs.Common.{List, length, ap, sym, subst, ◌∙◌, ◌+◌}
use Rattle.std.specs.Prelude.{IfOk, IfErr}
use Rattle.journal_defs.specs.Leaves.{Cell}
use Rattle.block_fmt.specs.Cells.{StandsIn, BelongsAt}
use Rattle.gvt_leaf.specs.Chained.{all_cells}
use Rattle.gvt_leaf.specs.Links.{one_if}
use Rattle.gvt_leaf.proofs.Edited.{set_cells, set_rising, set_count}
use Rattle.gvt_leaf.proofs.edits.set.Goals as goal

pub put_in_leaf-requires-clause-found : goal.put_in_leaf-requires-clause-found
put_in_leaf-requires-clause-found c = subst (λ (l : List Cell). IfOk c.find-place.result (StandsIn l c.args.key.now)) c.leaf.ensures c.find-place.ensures.found

pub put_in_leaf-requires-clause-place : goal.put_in_leaf-requires-clause-place
put_in_leaf-requires-clause-place c = subst (λ (l : List Cell). IfErr c.find-place.result (BelongsAt l c.args.key.now)) c.leaf.ensures c.find-place.ensures.place

pub returns-clause-cells : goal.returns-clause-cells
returns-clause-cells c = set_cells c.args.chain.now.leaves c.put_in_leaf.new.chain.leaves c.seat-i.result c.args.key.now c.args.value.now c.requires.rising c.seat-i.ensures c.put_in_leaf.ensures.put

pub returns-clause-rising : goal.returns-clause-rising
returns-clause-rising c = set_rising c.args.chain.now.leaves c.put_in_leaf.new.chain.leaves c.seat-i.result c.args.key.now c.args.value.now c.requires.rising c.seat-i.ensures c.put_in_leaf.ensures.put

pub returns-clause-count : goal.returns-clause-count
returns-clause-count c =
    set_count c.args.chain.now.leaves c.put_in_leaf.new.chain.leaves c.seat-i.result c.args.key.now c.args.value.now c.requires.rising c.seat-i.ensures c.put_in_leaf.ensures.put c.find-place.result
    (subst (λ (l : List Cell). IfOk c.find-place.result (StandsIn l c.args.key.now)) c.leaf.ensures c.find-place.ensures.found)
    (subst (λ (l : List Cell). IfErr c.find-place.result (BelongsAt l c.args.key.now)) c.leaf.ensures c.find-place.ensures.place)
    ∙ ap (λ b. length (all_cells c.args.chain.now.leaves) + one_if b) (sym c.is_err.ensures.value)
