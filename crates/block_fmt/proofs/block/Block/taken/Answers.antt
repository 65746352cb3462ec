use Rattle.std.proofs.Common.{subst, arith, ℕ}
use Rattle.std.specs.Prelude.{Result, IfOk, IfErr}
use Rattle.block_fmt.specs.Cells.{StandsIn, BelongsAt}
use Rattle.block_fmt.proofs.Order.{taken_stands, taken_belongs}
use Rattle.block_fmt.proofs.Changed.{leaf_few}
use Rattle.block_fmt.proofs.block.Block.taken.Goals as goal

pub overflow_add-result : goal.overflow_add-result
overflow_add-result c =
    let found = subst (λ (r : Result ℕ ℕ). IfOk r (StandsIn c.args.self.now.cells c.args.key.now)) c.in-Ok.is c.requires.found in
    omega (arith, found.inside, leaf_few c.args.self.now c.len.ensures.form)

pub returns-in-Ok : goal.returns-in-Ok
returns-in-Ok c =
    let found = subst (λ (r : Result ℕ ℕ). IfOk r (StandsIn c.args.self.now.cells c.args.key.now)) c.in-Ok.is c.requires.found in
    record { taken = taken_stands c.args.self.now.cells c.args.key.now c.in-Ok.i found }

pub returns-in-Err : goal.returns-in-Err
returns-in-Err c =
    let place = subst (λ (r : Result ℕ ℕ). IfErr r (BelongsAt c.args.self.now.cells c.args.key.now)) c.in-Err.is c.requires.place in
    record { taken = taken_belongs c.args.self.now.cells c.args.key.now c.in-Err.i place }
