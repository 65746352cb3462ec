use Rattle.std.proofs.Common.{List, ℕ, ap, subst, arith, length}
use Rattle.std.specs.Prelude.{Result, IfOk, IfErr}
use Rattle.journal_defs.specs.Leaves.{Cell}
use Rattle.block_fmt.specs.Cells.{StandsIn, BelongsAt}
use Rattle.block_fmt.proofs.Changed.{leaf_few}
use Rattle.gvt_leaf.specs.Chained.{leaf_cells}
use Rattle.gvt_leaf.proofs.Edited.{opened_there, opened_already}
use Rattle.gvt_leaf.proofs.edits.open_place.Goals as goal

pub overflow_add-place : goal.overflow_add-place
overflow_add-place c =
    let found = subst (λ (r : Result ℕ ℕ). IfOk r (StandsIn (leaf_cells c.args.chain.now.leaves c.args.i) c.args.key.now)) c.in-Ok.is c.requires.found in
    omega (arith, found.inside, ap (λ (l : List Cell). length l) c.leaf.ensures, leaf_few c.leaf.result.now c.len.ensures.form)

pub cut-requires-clause-cells : goal.cut-requires-clause-cells
cut-requires-clause-cells c =
    let found = subst (λ (r : Result ℕ ℕ). IfOk r (StandsIn (leaf_cells c.args.chain.now.leaves c.args.i) c.args.key.now)) c.in-Ok.is c.requires.found in
    omega (arith, found.inside)

pub returns-in-Ok-clause-opened : goal.returns-in-Ok-clause-opened
returns-in-Ok-clause-opened c =
    opened_there c.args.chain.now.leaves c.cut.new.self.leaves c.args.i c.args.key.now c.in-Ok.place
    (subst (λ (r : Result ℕ ℕ). IfOk r (StandsIn (leaf_cells c.args.chain.now.leaves c.args.i) c.args.key.now)) c.in-Ok.is c.requires.found) c.cut.ensures.leaves

pub returns-in-Err-clause-opened : goal.returns-in-Err-clause-opened
returns-in-Err-clause-opened c =
    opened_already c.args.chain.now.leaves c.args.i c.args.key.now c.in-Err.place c.requires.inside
    (subst (λ (r : Result ℕ ℕ). IfErr r (BelongsAt (leaf_cells c.args.chain.now.leaves c.args.i) c.args.key.now)) c.in-Err.is c.requires.place)
