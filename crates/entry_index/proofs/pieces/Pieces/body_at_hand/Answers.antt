use Rattle.std.proofs.Common.{◌≡◌, ◌≤◌, ◌-◌, ℕ, List, length, take, drop, ap, ◌∙◌, arith, length-drop}
use Rattle.std.proofs.lemmas.List.{take_all}
use Rattle.entry_index.proofs.Cuts.{body_at_part}
use Rattle.entry_index.proofs.pieces.Pieces.body_at_hand.Goals as goal

pub returns-clause-body : goal.returns-clause-body
returns-clause-body c =
    let p = c.args.self.now in
    let at = c.args.at in
    let from = c.in_ok-from.from in
    let now : List ℕ = c.deref.result.now in
    let least : p.start ≤ at = omega (arith, c.in_ok-from.ensures) in
    let place : from ≡ at - p.start = omega (arith, c.in_ok-from.ensures) in
    let inside : at - p.start ≤ length p.bytes.items = omega (arith, c.if-from-len.false, place) in
    let whole : take (length now - from) (drop from now) ≡ drop from now = take_all (length now - from) (drop from now) (omega (arith, length-drop from now)) in
    body_at_part p at _ least inside (whole ∙ ap (λ (k : ℕ). drop k now) place ∙ ap (λ (l : List ℕ). drop (at - p.start) l) c.deref.ensures.value) c.body_behind.result c.body_behind.ensures.begins
