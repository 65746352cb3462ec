use Rattle.std.proofs.Common.{◌-◌, ◌<◌, List, length, subst, arith}
use Rattle.global_defs.specs.Jobs.{Job}
use Rattle.gvn_model.specs.Jobs.{job_value}
use Rattle.repl_script.proofs.Filled.{is_there, own_is, last_there}
use Rattle.repl_script.proofs.places.last_of.Goals as goal

pub item-own-requires : goal.item-own-requires
item-own-requires c = omega (arith, c.from.ensures, is_there c.args.jobs.now (c.args.updater - 1) c.requires.job)

pub item-last-requires : goal.item-last-requires
item-last-requires c =
    let own = c.item-own.result.now in
    let some : 0 < length own = subst (λ (l : List Job). 0 < length l) (own_is c.args.jobs.now (c.args.updater - 1) c.from.result own c.from.ensures c.item-own.ensures) c.requires.job in
    omega (arith, some, c.len.ensures)

pub returns : goal.returns
returns c = last_there c.args.jobs.now (c.args.updater - 1) c.from.result c.item-own.result.now c.len.result (job_value c.item-last.result.now) c.from.ensures c.item-own.ensures c.len.ensures c.item-last.ensures
