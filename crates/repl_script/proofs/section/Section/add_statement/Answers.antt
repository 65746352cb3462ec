use Rattle.std.proofs.Common.{◌≡◌, ◌∙◌, sym, subst, true, ◌++◌, ◌∷◌, []}
use Rattle.gvn_key.specs.Terms.{statement_value}
use Rattle.command_defs.specs.Updaters.{is_of_size}
use Rattle.command_defs.specs.Sections.{last_job, jobs_of}
use Rattle.command_defs.proofs.Sizes.{one_small}
use Rattle.repl_script.specs.Places.{at_all}
use Rattle.repl_script.proofs.Sectioned.{after_job, after_statement}
use Rattle.repl_script.proofs.section.Section.add_statement.Goals as goal

pub invariant_of-self : goal.invariant_of-self
invariant_of-self c = after_statement (record { name = c.self.inside.site; jobs = at_all c.self.inside.jobs; order = c.self.inside.order; opened = c.self.inside.opened }) c.args.updater (statement_value c.args.statement) c.put_statement.result (at_all c.put_statement.new.jobs)
    c.self.invariant c.requires.allowed.0 (subst (λ s. is_of_size (last_job (jobs_of s c.args.updater) ++ statement_value c.args.statement ∷ []) ≡ true) (sym c.self.view_is) (c.requires.allowed.1 (sym c.is_open.ensures ∙ c.if-is_open.true))) c.put_statement.ensures.ok c.put_statement.ensures.err

pub invariant_of-self-2 : goal.invariant_of-self-2
invariant_of-self-2 c = after_job (record { name = c.self.inside.site; jobs = at_all c.self.inside.jobs; order = c.self.inside.order; opened = c.self.inside.opened }) c.args.updater (c.in_ok-job.job.statements) c.add_job.result (at_all c.add_job.new.jobs) c.add_job.new.order
    c.self.invariant c.requires.allowed.0 (subst (λ j. is_of_size j ≡ true) (sym c.in_ok-job.ensures) (one_small (statement_value c.args.statement))) c.add_job.ensures.jobs c.add_job.ensures.order c.add_job.ensures.jobs_kept c.add_job.ensures.order_kept
