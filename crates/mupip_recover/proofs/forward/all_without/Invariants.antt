use Rattle.std.proofs.Common.{take}
use Rattle.mupip_recover.specs.Without.{AreWithout}
use Rattle.mupip_recover.proofs.forward.all_without.Given as goal

abbrev pub invariant-loop-placed : goal.invariant-loop-placed
invariant-loop-placed l = AreWithout (take l.placed-index l.journal) l.made
