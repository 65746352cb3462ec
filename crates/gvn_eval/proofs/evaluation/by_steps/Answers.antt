use Rattle.std.proofs.Common.{◌≡◌, ◌<◌, map, length, Err, sym, ap, subst, ◌∙◌, arith}
use Rattle.std.proofs.lemmas.List.{length-map, get_or-map}
use Rattle.global_defs.specs.Evaluation as evaluation
use Rattle.gvn_key.specs.Terms.{statement_value}
use Rattle.gvn_model.specs.Jobs.{cause_value}
use Rattle.gvn_eval.specs.Steps.{Leads}
use Rattle.gvn_eval.proofs.StepLaws.{goes_on, stops_at}
use Rattle.gvn_eval.proofs.evaluation.by_steps.Goals as goal

pub returns-in-Err-RolledBack-clause-value : goal.returns-in-Err-RolledBack-clause-value
returns-in-Err-RolledBack-clause-value g c =
    let items = c.as_slice-statement-items.result.now in
    let job = map statement_value items in
    let s = c.statement-item.result in
    let i = c.loop-statement.statement-index in
    let cause = c.in-Err-RolledBack.cause in
    let p = c.loop-statement.progress in
    let below : i < length job = omega (arith, c.loop-statement-test.true, length-map items statement_value) in
    let leads : evaluation.stepping p (statement_value s) ≡ evaluation.Stops (cause_value cause) =
    subst (λ stop. Leads (evaluation.stepping p (statement_value s)) c.step.new.self (Err stop)) c.in-Err-RolledBack.field-0-is c.in-Err-RolledBack.ensures in
    ap (λ x. evaluation.RolledBack (cause_value x)) c.in-Err-RolledBack.cause-is
    ∙ stops_at p job i (statement_value s) (cause_value cause) (evaluation.eval c.args.job.now.statements (g.G.Lookup.seen c.args.on.now)) below
    (get_or-map statement_value items i s (statement_value s) c.loop-statement-test.true ∙ ap statement_value (sym c.statement-item.is)) c.loop-statement.invariant leads

pub loop-statement-preserved : goal.loop-statement-preserved
loop-statement-preserved g c =
    let items = c.as_slice-statement-items.result.now in
    let job = map statement_value items in
    let s = c.statement-item.result in
    let i = c.loop-statement.statement-index in
    let below : i < length job = omega (arith, c.loop-statement-test.true, length-map items statement_value) in
    goes_on c.loop-statement.progress c.step.new.self job i (statement_value s) (evaluation.eval c.args.job.now.statements (g.G.Lookup.seen c.args.on.now)) below
    (get_or-map statement_value items i s (statement_value s) c.loop-statement-test.true ∙ ap statement_value (sym c.statement-item.is)) c.loop-statement.invariant c.in-Ok.ensures
