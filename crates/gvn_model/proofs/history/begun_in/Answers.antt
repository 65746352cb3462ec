use Rattle.std.proofs.Common.{◌≡◌, Bool, List, ◌++◌, ◌∷◌, [], ◌∙◌, true, false, if◌then◌else◌, filter, map, take, nat_le, ap, sym, arith, append-nil}
use Rattle.std.proofs.lemmas.Bool.Decides.{nat_tests}
use Rattle.global_defs.specs.Entry.{Reign}
use Rattle.gvn_model.specs.Reigns.{reign_value}
use Rattle.gvn_model.proofs.Begun.{kept_more}
use Rattle.gvn_model.proofs.history.begun_in.Goals as goal
use Rattle.gvn_model.proofs.history.begun_in.Goals.{then-reign-number+in_ok-copy+in_ok-push, else-reign-number}

pub loop-reign-preserved : goal.loop-reign-preserved
loop-reign-preserved c =
    let x = c.reign-item.result in
    let i = c.loop-reign.reign-index in
    let n = c.args.number in
    let xs = c.args.reigns.now in
    let first : List Reign = filter (λ r. nat_le r.start n) (map reign_value (take i xs)) in
    elim c.if-reign-number.branch [
      | then-reign-number+in_ok-copy+in_ok-push w ↦
          let stays : nat_le x.start n ≡ true = grind (arith, nat_tests, w.if-reign-number.true) in
          w.made-is ∙ w.in_ok-push.ensures.ok
          ∙ (λ j. c.loop-reign.invariant j ++ reign_value (w.in_ok-copy.ensures j) ∷ [])
          ∙ ap (λ (b : Bool). first ++ (if b then reign_value x ∷ [] else [])) (sym stays)
          ∙ sym (kept_more n xs i x c.loop-reign-test.true c.reign-item.is)
      | else-reign-number w ↦
          let goes : nat_le x.start n ≡ false = grind (arith, nat_tests, w.if-reign-number.false) in
          w.made-is ∙ c.loop-reign.invariant ∙ sym (append-nil first)
          ∙ ap (λ (b : Bool). first ++ (if b then reign_value x ∷ [] else [])) (sym goes)
          ∙ sym (kept_more n xs i x c.loop-reign-test.true c.reign-item.is)
    ]
