use Rattle.region_tests.proofs.Kept.{applied_held}
use Rattle.region_tests.proofs.regions.make.Goals as goal

pub returns : goal.returns
returns g c = record { held = applied_held c.args.region.now c.apply.new.self c.apply.ensures.file c.apply.ensures.holds }
