use Rattle.region_tests.proofs.JoinedKept.{changed_held}
use Rattle.region_tests.proofs.joined.make.Goals as goal

pub returns-clause-held : goal.returns-clause-held
returns-clause-held g c = changed_held c.args.regions.now c.apply.new.self c.apply.ensures.changed
