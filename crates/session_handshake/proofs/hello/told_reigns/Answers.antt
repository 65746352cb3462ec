use Rattle.std.proofs.Common.{◌≡◌, ◌+◌, ◌<◌, ◌≤◌, List, [], ◌∷◌, ◌++◌, length, map, take, sym, ap, ◌∙◌, arith}
use Rattle.std.proofs.lemmas.List.{take_more, map-append}
use Rattle.global_defs.specs.declared.limits.TheConstants.{MOST_REIGNS}
use Rattle.global_defs.specs.Entry as defs
use Rattle.global_defs.specs.Rising.{begun_by}
use Rattle.gvn_model.specs.declared.reign.Reign.{Reign}
use Rattle.gvn_model.specs.Reigns.{reign_value}
use Rattle.receiver_server.proofs.Knows.{begun-push, begun-push_late}
use Rattle.session_handshake.proofs.Tellings.{take_push, take_full}
use Rattle.session_handshake.proofs.hello.told_reigns.Goals as goal
use Rattle.session_handshake.proofs.hello.told_reigns.Goals.{then-reign-number+then-len-le-MOST_REIGNS+in_ok-copy+in_ok-push, else-reign-number, else-reign-number-via-then-reign-number+else-len-le-MOST_REIGNS, else-reign-number-via-else-reign-number}

pub loop-reign-preserved : goal.loop-reign-preserved
loop-reign-preserved c =
    let xs = c.args.reigns.now in
    let i = c.loop-reign.reign-index in
    let x = c.reign-item.result in
    let n = c.args.number in
    let most = MOST_REIGNS + 1 in
    let front = map reign_value (take i xs) in
    let lt : i < length xs = omega arith in
    let e : map reign_value (take (i + 1) xs) ≡ front ++ reign_value x ∷ []
    = ap (map reign_value) (take_more xs i x lt ∙ ap (λ y. take i xs ++ y ∷ []) (sym c.reign-item.is)) ∙ map-append reign_value (take i xs) (x ∷ []) in
    let told : c.loop-reign.told ≡ take most (begun_by n front) = c.loop-reign.invariant in
    let size : length c.loop-reign.told ≡ length (take most (begun_by n front)) = ap (λ (l : List defs.Reign). length l) told in
    elim c.if-reign-number.branch [
      | then-reign-number+then-len-le-MOST_REIGNS+in_ok-copy+in_ok-push w ↦ (
          let more = ap (begun_by n) e ∙ begun-push n front (reign_value x) w.if-reign-number.true in
          let few : length (take most (begun_by n front)) < most = omega (arith, size, w.len.ensures, w.if-len-le-MOST_REIGNS.true) in
          w.told-is ∙ (w.in_ok-push.ensures.ok ∙ (ap (λ (r : Reign). c.loop-reign.told ++ reign_value r ∷ []) w.in_ok-copy.ensures
          ∙ (ap (λ (l : List defs.Reign). l ++ reign_value x ∷ []) told ∙ sym (ap (take most) more ∙ take_push most (begun_by n front) (reign_value x) few)))))
      | else-reign-number w ↦ elim w.else-reign-number.branch [
        | else-reign-number-via-then-reign-number+else-len-le-MOST_REIGNS v ↦ (
            let more = ap (begun_by n) e ∙ begun-push n front (reign_value x) v.if-reign-number.true in
            let full : most ≤ length (take most (begun_by n front)) = omega (arith, size, v.len.ensures, v.if-len-le-MOST_REIGNS.false) in
            w.told-is ∙ (told ∙ sym (ap (take most) more ∙ take_full most (begun_by n front) (reign_value x) full)))
        | else-reign-number-via-else-reign-number v ↦ (
            let same = ap (begun_by n) e ∙ begun-push_late n front (reign_value x) (let past = v.if-reign-number.false in omega (arith, past)) in
            w.told-is ∙ (told ∙ sym (ap (take most) same)))
      ]
    ]
