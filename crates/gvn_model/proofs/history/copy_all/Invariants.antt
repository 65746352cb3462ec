use Rattle.std.proofs.Common.{◌≡◌, take}
use Rattle.gvn_model.proofs.history.copy_all.Given as goal

abbrev pub invariant-loop-reign : goal.invariant-loop-reign
invariant-loop-reign l = l.made.items ≡ take l.reign-index l.reigns
