use Rattle.std.proofs.Common.{drop}
use Rattle.gvt_leaf.proofs.TakenOut.{above_not_before}
use Rattle.gvt_leaf.proofs.Runs.{stands_not_before}
use Rattle.gvt_leaf.proofs.seats.place_of.Goals as goal

pub returns-in-Ok-clause-behind : goal.returns-in-Ok-clause-behind
returns-in-Ok-clause-behind c = stands_not_before c.args.leaf.now.cells c.args.key.now c.in-Ok.place c.in-Ok.ensures.found

pub returns-in-Err-clause-behind : goal.returns-in-Err-clause-behind
returns-in-Err-clause-behind c = above_not_before (drop c.in-Err.place c.args.leaf.now.cells) c.args.key.now c.in-Err.ensures.place.after
