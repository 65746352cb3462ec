use Rattle.std.proofs.Common.{◌++◌, ◌≤◌, List, ap, sym, subst, ◌∙◌, length, take, drop, arith}
use Rattle.std.proofs.lemmas.List.{take-append-le}
use Rattle.rtrb.specs.Ring.{received, known_items}
use Rattle.repl_link.specs.Items.{Symbol, EndsLast}
use Rattle.repl_link.proofs.ItemLists.{allowed_last}
use Rattle.repl_link.proofs.mem_rx.pop_front.Goals as goal

pub returns-clause-received : goal.returns-clause-received
returns-clause-received c =
    let p = c.pop_partial_slice in
    let fits : p.result ≤ length p.new.slice = omega (arith, p.ensures.received.0, p.auto.slice) in
    p.ensures.received.1 ∙ ap (λ l. received c.args.ring.now ++ l) (sym (take-append-le p.result p.new.slice (drop c.args.most c.args.items.now) fits))

pub returns-clause-known : goal.returns-clause-known
returns-clause-known c =
    let p = c.pop_partial_slice in
    let fits : p.result ≤ length p.new.slice = omega (arith, p.ensures.received.0, p.auto.slice) in
    (p.ensures.known.0, p.ensures.known.1 ∙ ap (λ l. l ++ known_items p.new.self) (sym (take-append-le p.result p.new.slice (drop c.args.most c.args.items.now) fits)))

pub returns-clause-last : goal.returns-clause-last
returns-clause-last c =
    let p = c.pop_partial_slice in
    let fits : p.result ≤ length p.new.slice = omega (arith, p.ensures.received.0, p.auto.slice) in
    subst (λ (l : List Symbol). EndsLast l) (sym (take-append-le p.result p.new.slice (drop c.args.most c.args.items.now) fits)) (allowed_last (received c.args.ring.now) (take p.result p.new.slice) p.ensures.allowed)
