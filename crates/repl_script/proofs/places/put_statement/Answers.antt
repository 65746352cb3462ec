use Rattle.std.proofs.Common.{◌-◌, ◌<◌, List, length, refl, subst, arith}
use Rattle.global_defs.specs.Jobs.{Job}
use Rattle.gvn_key.specs.Terms.{statement_value}
use Rattle.repl_script.proofs.Filled.{at_place, is_there, statement_put, still_all}
use Rattle.repl_script.proofs.places.put_statement.Goals as goal

pub add_statement-requires-clause-updater : goal.add_statement-requires-clause-updater
add_statement-requires-clause-updater c = (c.requires.updater, omega (arith, c.requires.updater, is_there c.args.jobs.now (c.args.updater - 1) c.requires.job))

pub add_statement-requires-clause-job : goal.add_statement-requires-clause-job
add_statement-requires-clause-job c = subst (λ (own : List Job). 0 < length own) (at_place c.args.jobs.now (c.args.updater - 1)) c.requires.job

pub returns-clause-ok : goal.returns-clause-ok
returns-clause-ok c =
    statement_put c.add_statement.result c.args.jobs.now c.add_statement.new.self (c.args.updater - 1) (statement_value c.args.statement) (is_there c.args.jobs.now (c.args.updater - 1) c.requires.job) c.add_statement.ensures.ok

pub returns-clause-err : goal.returns-clause-err
returns-clause-err c = still_all c.add_statement.result c.args.jobs.now c.args.jobs.now c.add_statement.new.self refl c.add_statement.ensures.err
