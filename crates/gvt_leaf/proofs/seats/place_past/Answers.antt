use Rattle.std.proofs.Common.{arith, take}
use Rattle.block_fmt.proofs.Changed.{leaf_few}
use Rattle.gvt_leaf.proofs.Updates.{below_past}
use Rattle.gvt_leaf.proofs.Runs.{stands_past}
use Rattle.gvt_leaf.proofs.seats.place_past.Goals as goal

pub overflow_add-result : goal.overflow_add-result
overflow_add-result c = omega (arith, c.in-Ok.ensures.found.inside, leaf_few c.args.leaf.now c.in-Ok.ensures.form)

pub returns-in-Ok-clause-before : goal.returns-in-Ok-clause-before
returns-in-Ok-clause-before c = stands_past c.args.leaf.now.cells c.args.key.now c.in-Ok.place c.in-Ok.ensures.found

pub returns-in-Err-clause-before : goal.returns-in-Err-clause-before
returns-in-Err-clause-before c = below_past c.args.key.now (take c.in-Err.place c.args.leaf.now.cells) c.in-Err.ensures.place.before
