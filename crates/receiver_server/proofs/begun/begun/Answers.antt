use Rattle.std.proofs.Common.{◌≡◌, ◌+◌, ◌<◌, [], ◌∷◌, ◌++◌, length, map, take, None, sym, ap, ◌∙◌, arith, length-append}
use Rattle.std.specs.Prelude.{option_map}
use Rattle.std.specs.List.{last_or}
use Rattle.std.proofs.lemmas.List.{take_more, map-append}
use Rattle.global_defs.specs.Rising.{begun_by}
use Rattle.gvn_model.specs.Reigns.{reign_value}
use Rattle.receiver_server.proofs.Knows.{begun-push, begun-push_late}
use Rattle.receiver_server.proofs.begun.begun.Goals as goal
use Rattle.receiver_server.proofs.begun.begun.Goals.{then-reign-number, else-reign-number}
use Rattle.global_defs.proofs.Basics.{last_or_push}

pub loop-reign-preserved : goal.loop-reign-preserved
loop-reign-preserved c =
    let xs = c.args.reigns.now in
    let i = c.loop-reign.reign-index in
    let x = c.reign-item.result in
    let n = c.args.number in
    let front = map reign_value (take i xs) in
    let lt : i < length xs = omega arith in
    let e : map reign_value (take (i + 1) xs) ≡ front ++ reign_value x ∷ []
    = ap (map reign_value) (take_more xs i x lt ∙ ap (λ y. take i xs ++ y ∷ []) (sym c.reign-item.is)) ∙ map-append reign_value (take i xs) (x ∷ []) in
    elim c.if-reign-number.branch [
      | then-reign-number w ↦ (
          let more = ap (begun_by n) e ∙ begun-push n front (reign_value x) w.if-reign-number.true in (
            w.count-is ∙ (ap (λ k. k + 1) c.loop-reign.invariant.0 ∙ sym (ap length more ∙ length-append (begun_by n front) (reign_value x ∷ []))),
            ap (λ o. option_map (λ r. reign_value r.now) o) w.last-is ∙ sym (ap (last_or None) more ∙ last_or_push None (begun_by n front) (reign_value x)),
            omega (arith, c.loop-reign.invariant.2, w.count-is),
          ))
      | else-reign-number w ↦ (
          let same = ap (begun_by n) e ∙ begun-push_late n front (reign_value x) (let past = w.if-reign-number.false in omega (arith, past)) in (
            w.count-is ∙ (c.loop-reign.invariant.0 ∙ sym (ap length same)),
            ap (λ o. option_map (λ r. reign_value r.now) o) w.last-is ∙ (c.loop-reign.invariant.1 ∙ sym (ap (last_or None) same)),
            omega (arith, c.loop-reign.invariant.2, w.count-is),
          ))
    ]
