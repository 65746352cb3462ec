use Rattle.repl_script.specs.Places.{at_all}
use Rattle.repl_script.proofs.Sectioned.{complete_run}
use Rattle.repl_script.proofs.section.Section.finish.Goals as goal

pub returns-clause-formed : goal.returns-clause-formed
returns-clause-formed c = complete_run (record { name = c.self.inside.site; jobs = at_all c.self.inside.jobs; order = c.self.inside.order; opened = c.self.inside.opened }) c.self.invariant
