use Rattle.std.proofs.Common.{◌≡◌, take}
use Rattle.gvn_model.proofs.entries.copy_all.Given as goal

abbrev pub invariant-loop-entry : goal.invariant-loop-entry
invariant-loop-entry l = l.made.items ≡ take l.entry-index l.entries
