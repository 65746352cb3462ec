use Rattle.std.proofs.Common.{◌∙◌, sym, ap, arith, to_z, of_z, w64}
use Rattle.std.proofs.lemmas.Int.{ints}
use Rattle.std.specs.FinMap as globals
use Rattle.global_defs.specs.Evaluation as evaluation
use Rattle.gvn_eval.proofs.StepLaws.{added}
use Rattle.gvn_eval.proofs.progress.Progress.increment.Goals as goal

pub returns-in-Some-sum : goal.returns-in-Some-sum
returns-in-Some-sum g c =
    let s = c.in-Some-sum.sum in
    let old = c.in-Some.old in
    let n = c.args.n in
    let p = c.args.self.now in
    let key = c.args.key.now in
    let value = c.in-Some.ensures ∙ ap evaluation.counted (c.get.ensures ∙ ap (λ q. globals.get q.globals key) c.self.view_is) in
    let counts = sym (sym c.is_counted.ensures ∙ c.if-not-is_counted.false) in
    added p c.set_sum.new.self key n old s (to_z w64 (of_z w64 n)) (to_z w64 (of_z w64 old)) (to_z w64 (of_z w64 s)) (evaluation.counted (globals.get p.globals key)) c.set_sum.result
    (omega (arith, ints)) (omega (arith, ints)) (omega (arith, ints)) counts value c.in-Some-sum.ensures c.set_sum.ensures
