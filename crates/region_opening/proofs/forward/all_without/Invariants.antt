use Rattle.std.proofs.Common.{take}
use Rattle.region_opening.specs.Signs.{AreWithout}
use Rattle.region_opening.proofs.forward.all_without.Given as goal

abbrev pub invariant-loop-placed : goal.invariant-loop-placed
invariant-loop-placed l = AreWithout (take l.placed-index l.signs) l.made
