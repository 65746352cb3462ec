use Rattle.std.proofs.Common.{List, map, subst, arith}
use Rattle.std.proofs.lemmas.List.{take_all}
use Rattle.block_laws.specs.Nodes.{AreFormed}
use Rattle.jnl_record.specs.Values.{placed_value}
use Rattle.jnl_record.specs.declared.placed.PlacedRecord.{PlacedRecord}
use Rattle.region_tests.proofs.Kept.{formed_more}
use Rattle.region_tests.proofs.regions.are_images.Goals as goal

pub loop-placed-preserved : goal.loop-placed-preserved
loop-placed-preserved c = formed_more c.args.records.now c.loop-placed.placed-index c.placed-item.result c.loop-placed-test.true c.placed-item.is c.loop-placed.invariant (c.is_image.ensures c.if-not-is_image.false)

pub returns : goal.returns
returns c is = subst (λ (ps : List PlacedRecord). AreFormed (map placed_value ps)) (take_all c.loop-placed.placed-index c.args.records.now (let end = c.loop-placed-test.false in omega (arith, end))) c.loop-placed.invariant
