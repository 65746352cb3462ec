use Rattle.std.proofs.Common.{ap}
use Rattle.repl_script.specs.Places.{at_all}
use Rattle.repl_script.proofs.places.no_jobs.Goals as goal

pub returns : goal.returns
returns c = ap at_all c.new.ensures
