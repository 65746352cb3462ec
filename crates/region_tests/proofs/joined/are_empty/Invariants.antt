use Rattle.std.proofs.Common.{take}
use Rattle.std.specs.List.{AllByRecursion}
use Rattle.region_tests.specs.Nodeless.{HasNoNodes}
use Rattle.region_tests.proofs.joined.are_empty.Given as goal

abbrev pub invariant-loop-region : goal.invariant-loop-region
invariant-loop-region l = AllByRecursion HasNoNodes (take l.region-index l.regions)
