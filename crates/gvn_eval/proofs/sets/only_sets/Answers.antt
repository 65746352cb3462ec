use Rattle.std.proofs.Common.{◌+◌, ◌≤◌, length, map, arith}
use Rattle.std.proofs.lemmas.List.{length-map}
use Rattle.std.specs.FinMap as globals
use Rattle.global_defs.specs.declared.limits.TheConstants.{MOST_NODES}
use Rattle.gvn_key.specs.Terms.{statement_value}
use Rattle.gvn_eval.proofs.SetLaws.{told}
use Rattle.gvn_eval.proofs.sets.only_sets.Goals as goal

pub returns-then-may_set_all : goal.returns-then-may_set_all
returns-then-may_set_all g c =
    let items = c.args.statements.now in
    let room : globals.len (g.G.Lookup.seen c.args.on.now) + length items ≤ MOST_NODES = c.may_set_all.ensures.room c.if-may_set_all.true in
    told (map statement_value items) (g.G.Lookup.seen c.args.on.now) c.updates_of.result (omega (arith, room, length-map items statement_value)) c.updates_of.ensures
