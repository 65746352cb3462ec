use Rattle.std.proofs.Common.{◌-◌, ◌<◌, length, arith}
use Rattle.gvn_model.specs.Jobs.{job_value}
use Rattle.repl_script.proofs.Filled.{job_put, still_all}
use Rattle.repl_script.proofs.places.put_job.Goals as goal

pub returns-clause-jobs : goal.returns-clause-jobs
returns-clause-jobs c =
    let made = c.make_places.new.jobs in
    let inside : c.args.updater - 1 < length made = omega (arith, c.requires.0, c.in_ok-make_places.ensures.there) in
    job_put c.add.result c.args.jobs.now made c.add.new.self (c.args.updater - 1) (job_value c.args.job) c.in_ok-make_places.ensures.same inside c.add.ensures.ok

pub returns-clause-kept : goal.returns-clause-kept
returns-clause-kept c = still_all c.add.result c.args.jobs.now c.make_places.new.jobs c.add.new.self c.in_ok-make_places.ensures.same c.add.ensures.err
