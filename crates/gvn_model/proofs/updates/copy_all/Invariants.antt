use Rattle.std.proofs.Common.{◌≡◌, take}
use Rattle.gvn_model.proofs.updates.copy_all.Given as goal

abbrev pub invariant-loop-update : goal.invariant-loop-update
invariant-loop-update l = l.made.items ≡ take l.update-index l.updates
