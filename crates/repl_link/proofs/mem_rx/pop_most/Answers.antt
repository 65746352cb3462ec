use Rattle.std.proofs.Common.{◌≡◌, ◌++◌, List, ap, sym, subst, ◌∙◌, length, take, arith}
use Rattle.std.proofs.lemmas.List.{with_items_is}
use Rattle.rtrb.specs.Ring.{received, known_items}
use Rattle.repl_link.specs.Items.{Symbol, EndsLast}
use Rattle.repl_link.proofs.mem_rx.pop_most.Goals as goal

pub returns-clause-received : goal.returns-clause-received
returns-clause-received c =
    let p = c.pop_front-count in
    let sized : length p.new.items ≡ length c.deref_mut.result.now = omega (arith, p.auto.items) in
    let size : length c.deref_mut.result.now ≡ length c.args.places.0.items = ap length c.deref_mut.ensures.value in
    let whole = with_items_is c.args.places.0 p.new.items (omega (arith, sized, size, c.args.places.0.ok.0)) in
    p.ensures.received ∙ ap (λ l. received c.args.ring ++ take p.result l) (sym whole)

pub returns-clause-known : goal.returns-clause-known
returns-clause-known c =
    let p = c.pop_front-count in
    let sized : length p.new.items ≡ length c.deref_mut.result.now = omega (arith, p.auto.items) in
    let size : length c.deref_mut.result.now ≡ length c.args.places.0.items = ap length c.deref_mut.ensures.value in
    let whole = with_items_is c.args.places.0 p.new.items (omega (arith, sized, size, c.args.places.0.ok.0)) in
    (p.ensures.known.0, p.ensures.known.1 ∙ ap (λ l. take p.result l ++ known_items p.new.ring) (sym whole))

pub returns-clause-last : goal.returns-clause-last
returns-clause-last c =
    let p = c.pop_front-count in
    let sized : length p.new.items ≡ length c.deref_mut.result.now = omega (arith, p.auto.items) in
    let size : length c.deref_mut.result.now ≡ length c.args.places.0.items = ap length c.deref_mut.ensures.value in
    let whole = with_items_is c.args.places.0 p.new.items (omega (arith, sized, size, c.args.places.0.ok.0)) in
    subst (λ (l : List Symbol). EndsLast (take p.result l)) (sym whole) p.ensures.last
