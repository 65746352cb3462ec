use Rattle.std.proofs.Common.{map, take}
use Rattle.block_laws.specs.Nodes.{AreFormed}
use Rattle.jnl_record.specs.Values.{placed_value}
use Rattle.region_tests.proofs.regions.are_images.Given as goal

abbrev pub invariant-loop-placed : goal.invariant-loop-placed
invariant-loop-placed l = AreFormed (map placed_value (take l.placed-index l.records))
