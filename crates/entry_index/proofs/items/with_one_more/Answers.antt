use Rattle.std.proofs.Common.{◌≡◌, ◌+◌, ◌&&◌, Bool, true, false, nat_eq, ap, sym, ◌∙◌, arith}
use Rattle.entry_index.proofs.ItemLists.{span_longer}
use Rattle.entry_index.proofs.items.with_one_more.Goals as goal

pub returns-then-span : goal.returns-then-span
returns-then-span c list i is lie =
    let s = c.args.span in
    let row : s.in_a_row ≡ true = c.if-span.true in
    let same : nat_eq c.from-then-span.result (c.from.result + c.from-2.result) ≡ nat_eq c.args.position (s.first + s.many) = cc (c.from-then-span.ensures, c.from.ensures, c.from-2.ensures) in
    span_longer list i c.args.position s.first s.many s.in_a_row (nat_eq c.from-then-span.result (c.from.result + c.from-2.result)) is lie (omega arith)
    (same ∙ ap (λ (b : Bool). b && nat_eq c.args.position (s.first + s.many)) (sym row))

pub returns-else-span : goal.returns-else-span
returns-else-span c list i is lie =
    let s = c.args.span in
    let row : s.in_a_row ≡ false = c.if-span.false in
    span_longer list i c.args.position s.first s.many s.in_a_row s.in_a_row is lie (omega arith) (row ∙ ap (λ (b : Bool). b && nat_eq c.args.position (s.first + s.many)) (sym row))
