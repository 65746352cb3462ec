use Rattle.repl_script.specs.Places.{at_all}
use Rattle.repl_script.proofs.Sectioned.{begun_parts}
use Rattle.repl_script.proofs.section.Section.begin_transaction.Goals as goal

pub invariant_of-self-2 : goal.invariant_of-self-2
invariant_of-self-2 c = begun_parts (record { name = c.self.inside.site; jobs = at_all c.self.inside.jobs; order = c.self.inside.order; opened = c.self.inside.opened }) c.args.updater (at_all c.add_job.new.jobs) c.add_job.new.order c.from.result c.new.result
    c.self.invariant c.requires c.in_ok-add_job.ensures.jobs c.new.ensures c.in_ok-add_job.ensures.order c.from.ensures
