use Rattle.std.proofs.Common.{◌≡◌, take}
use Rattle.gvn_model.proofs.named_modes.copy_all.Given as goal

abbrev pub invariant-loop-name : goal.invariant-loop-name
invariant-loop-name l = l.made.items ≡ take l.name-index l.named
