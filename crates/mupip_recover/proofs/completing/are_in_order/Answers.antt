use Rattle.std.proofs.Common.{sym, ◌∙◌, ap, arith}
use Rattle.mupip_recover.specs.Parts.{items_at}
use Rattle.mupip_recover.specs.Table.{part_at}
use Rattle.mupip_recover.specs.Slots.{next_after, is_at}
use Rattle.mupip_recover.proofs.InOrder.{region_more, region_fails}
use Rattle.mupip_recover.proofs.completing.are_in_order.Goals as goal

pub returns-in_default : goal.returns-in_default
returns-in_default c =
    let f = items_at c.args.head.now.mask (part_at c.args.table.now c.args.place) in
    let none = ap (next_after c.loop-region.next) (sym c.items_of.ensures) ∙ sym c.position_after.ensures ∙ c.in_default.is in
    sym (ap (is_at c.args.head.now.count) (c.loop-region.invariant ∙ region_fails f c.loop-region.region c.loop-region.next (omega arith) none))

pub loop-region-preserved : goal.loop-region-preserved
loop-region-preserved c =
    let f = items_at c.args.head.now.mask (part_at c.args.table.now c.args.place) in
    let some = ap (next_after c.loop-region.next) (sym c.items_of.ensures) ∙ sym c.position_after.ensures ∙ c.in-Some.is in
    c.loop-region.invariant ∙ region_more f c.loop-region.region c.loop-region.next c.in-Some.after (omega arith) some
