use Rattle.std.proofs.Common.{◌≡◌, ◌≢◌, ◌<◌, ◌≤◌, List, [], ◌∷◌, length, ap, arith}
use Rattle.std.specs.List.{AllByRecursion}
use Rattle.global_defs.specs.declared.limits.TheConstants.{MOST_REGIONS}
use Rattle.global_defs.specs.Entry.{Update}
use Rattle.gvn_model.specs.Entries.{transaction_value}
use Rattle.journal_defs.specs.Fit.{key_of, region_of_update}
use Rattle.journal_defs.specs.Split.{with_items}
use Rattle.journal_laws.proofs.Masks.{made}
use Rattle.tp_commit.proofs.Placing.{none_past}
use Rattle.tp_commit.proofs.records.split_holds.Goals as goal

each : (P : Update → Type 0) → ((u : Update) → P u) → (us : List Update) → AllByRecursion P us
each P h [] = tt
each P h (u ∷ us) = (h u, each P h us)

not_empty : (us : List Update) → 1 ≤ length us → us ≢ []
not_empty us some is = let none : length us ≡ 0 = ap length is in omega (arith, none, some)

pub returns-clause-split : goal.returns-clause-split
returns-clause-split c =
    let region = region_of_update c.args.directory.now.patterns in
    let t = transaction_value c.args.t.now in
    made region t (not_empty t.updates c.requires.some) (each (λ u. region u < MOST_REGIONS) (λ u. (let a = c.regions-regions.ensures.there (key_of u).name in let b = c.regions-regions.ensures.few in omega (arith, a, b))) t.updates)

pub returns-clause-no_other : goal.returns-clause-no_other
returns-clause-no_other c n mask r past =
    let region = region_of_update c.args.directory.now.patterns in
    let t = transaction_value c.args.t.now in
    ap (with_items n mask t) (none_past region c.args.directory.now.regions 0 r t.updates (λ u. (let a = c.regions-regions.ensures.there (key_of u).name in let b = c.regions-regions.ensures.count in omega (arith, a, b))) past)
