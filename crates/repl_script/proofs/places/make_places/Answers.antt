use Rattle.std.proofs.Common.{◌≡◌, ℕ, List, ◌+◌, ◌<◌, ◌∷◌, ◌++◌, [], length, ◌∙◌, ap, arith}
use Rattle.std.proofs.lemmas.List.{length_push}
use Rattle.global_defs.specs.Jobs.{Job}
use Rattle.repl_script.specs.Places.{at_all}
use Rattle.repl_script.proofs.Filled.{one_more}
use Rattle.repl_script.proofs.places.make_places.Goals as goal

pub loop-place-preserved : goal.loop-place-preserved
loop-place-preserved c =
    let jobs = c.loop-place.jobs in
    let low : length jobs < 64 = omega (arith, c.loop-place.invariant.count, c.loop-place-test.true, c.from-place-end.ensures, c.requires) in
    let made : c.push.new.self ≡ jobs ++ [] ∷ [] = c.in_ok-push.ensures.ok ∙ ap (λ (own : List Job). jobs ++ own ∷ []) c.new.ensures in
    record {
      same = ap at_all made ∙ one_more jobs low ∙ c.loop-place.invariant.same;
      count = ap (λ (l : List (List Job)). length l) made ∙ length_push jobs [] ∙ ap (λ (n : ℕ). n + 1) c.loop-place.invariant.count;
    }
