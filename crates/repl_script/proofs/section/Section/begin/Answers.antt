use Rattle.repl_script.specs.Places.{at_all}
use Rattle.repl_script.proofs.Sectioned.{made_parts}
use Rattle.repl_script.proofs.section.Section.begin.Goals as goal

pub invariant_of-result : goal.invariant_of-result
invariant_of-result c = made_parts c.args.site (at_all c.no_jobs.result) c.new.result c.nobody.result c.requires c.no_jobs.ensures c.new.ensures c.nobody.ensures
