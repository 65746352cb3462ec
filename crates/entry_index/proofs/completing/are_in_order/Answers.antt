use Rattle.std.proofs.Common.{◌≡◌, ℕ, List, Some, ◌∙◌, ap, arith}
use Rattle.std.specs.List.{flat_map}
use Rattle.mupip_recover.specs.Parts.{items_at}
use Rattle.mupip_recover.specs.Slots.{next_after, is_at}
use Rattle.mupip_recover.proofs.InOrder.{region_more}
use Rattle.entry_index.specs.Table.{row_sign}
use Rattle.entry_index.proofs.Complete.{spans, past_regions}
use Rattle.entry_index.proofs.completing.are_in_order.Goals as goal

pub loop-region-preserved : goal.loop-region-preserved
loop-region-preserved c = λ files n part are.
    let mask = c.args.head.now.mask in
    let f = items_at mask part in
    let some : next_after c.loop-region.next (f c.loop-region.region) ≡ Some c.in-Some.after =
    c.in-Some.ensures (f c.loop-region.region) (c.span_in.ensures ∙ spans files n (row_sign c.args.row.now) part are mask c.loop-region.region) in
    c.loop-region.invariant files n part are ∙ region_more f c.loop-region.region c.loop-region.next c.in-Some.after (omega arith) some

pub returns : goal.returns
returns c = λ true files n part are.
    let mask = c.args.head.now.mask in
    let f = items_at mask part in
    let none = past_regions c.loop-region.region (omega arith) in
    ap (is_at c.args.head.now.count) (c.loop-region.invariant files n part are ∙ ap (λ (l : List ℕ). next_after c.loop-region.next (flat_map f l)) none) ∙ true
