use Rattle.std.proofs.Common.{◌≡◌, ◌+◌, ◌≤◌, length, map, sym, ap, ◌∙◌, arith}
use Rattle.std.proofs.lemmas.List.{length-map}
use Rattle.std.specs.FinMap as globals
use Rattle.global_defs.specs.declared.limits.TheConstants.{MOST_NODES}
use Rattle.gvn_key.specs.Terms.{statement_value}
use Rattle.gvn_eval.specs.Sets.{setting}
use Rattle.gvn_eval.proofs.SetLaws.{all_set}
use Rattle.gvn_eval.proofs.evaluation.eval_owned.Goals as goal

pub returns-clause-value : goal.returns-clause-value
returns-clause-value g c =
    let items = c.as_slice.result.now in
    let job = c.args.job.statements in
    let seen = g.G.Lookup.seen c.args.on.now in
    let room : globals.len seen + length items ≤ MOST_NODES = c.may_set_all.ensures.room c.if-not-may_set_all.false in
    let long : length items ≡ length job = sym (length-map items statement_value) ∙ ap length c.as_slice.ensures in
    all_set job seen c.in_ok-updates.updates c.new-answers.result (omega (arith, room, long)) (ap (map setting) (sym c.into_items.ensures) ∙ c.in_ok-updates.ensures) c.new-answers.ensures
