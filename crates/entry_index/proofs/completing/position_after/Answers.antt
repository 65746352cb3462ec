use Rattle.std.proofs.Common.{◌≡◌, not, Bool, true, false, Some, refl, sym, ◌∙◌, ap}
use Rattle.entry_index.proofs.Complete.{span_end}
use Rattle.entry_index.proofs.completing.position_after.Goals as goal

in_a_row : (b : Bool) → not b ≡ false → b ≡ true
in_a_row true h = refl
in_a_row false h = sym h

pub returns : goal.returns
returns c = λ items is. span_end c.args.next items c.args.span is (in_a_row c.args.span.in_a_row c.if-not-span.false) c.if-span-next.false ∙ ap Some (sym c.in_ok-after.ensures.1)
