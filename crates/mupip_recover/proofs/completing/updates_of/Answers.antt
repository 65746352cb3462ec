use Rattle.std.proofs.Common.{◌≡◌, sym, ◌∙◌, ap, subst, IfOk, List, Option, Some}
use Rattle.global_defs.specs.Entry.{Update}
use Rattle.journal_defs.specs.Sequence.{items_in}
use Rattle.mupip_recover.specs.Parts.{part_value}
use Rattle.mupip_recover.specs.Table.{part_at}
use Rattle.mupip_recover.proofs.Completion.{by_agreement, by_count}
use Rattle.mupip_recover.proofs.InOrder.{by_order}
use Rattle.mupip_recover.proofs.SlotLaws.{all_filled}
use Rattle.mupip_recover.proofs.completing.updates_of.Goals as goal

pub returns : goal.returns
returns c =
    let is = by_count (part_at c.args.table.now c.args.place) (part_value c.args.head.now) (sym c.all_agree.ensures ∙ c.if-not-all_agree.false) (sym c.has_count.ensures ∙ c.if-not-has_count.false) in
    let all = all_filled _ _ _ c.in_ok-slots_of.ensures in
    subst (λ (o : Option (List Update)). IfOk c.updates_in.result (λ found. found ≡ o)) (sym (is ∙ all)) c.updates_in.ensures

pub returns-then-are_in_order : goal.returns-then-are_in_order
returns-then-are_in_order c =
    let is = by_agreement (part_at c.args.table.now c.args.place) (part_value c.args.head.now) (sym c.all_agree.ensures ∙ c.if-not-all_agree.false) in
    let all = by_order (items_in c.args.head.now.mask (part_at c.args.table.now c.args.place)) c.args.head.now.count (sym c.are_in_order.ensures ∙ c.if-are_in_order.true) in
    ap Some c.in_ok-copies_of.ensures ∙ sym (is ∙ all)
