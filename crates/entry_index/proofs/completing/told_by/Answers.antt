use Rattle.std.proofs.Common.{sym, ◌∙◌}
use Rattle.entry_index.specs.Table.{row_sign}
use Rattle.entry_index.proofs.Complete.{not_agreed, in_order, not_counted}
use Rattle.entry_index.proofs.completing.told_by.Goals as goal

pub returns-then-not-all_agree : goal.returns-then-not-all_agree
returns-then-not-all_agree c = λ files n part are r p tells.
    not_agreed files n (row_sign c.args.row.now) part are r c.args.head.now p tells (sym c.all_agree.ensures ∙ c.if-not-all_agree.true)

pub returns-then-are_in_order : goal.returns-then-are_in_order
returns-then-are_in_order c = λ files n part are r p tells.
    in_order files n (row_sign c.args.row.now) part are r c.args.head.now p tells (sym c.all_agree.ensures ∙ c.if-not-all_agree.false) (c.are_in_order.ensures c.if-are_in_order.true files n part are)

pub returns-else-has_count : goal.returns-else-has_count
returns-else-has_count c = λ files n part are r p tells.
    not_counted files n (row_sign c.args.row.now) part are r c.args.head.now p tells (sym (c.has_count.ensures files n part are) ∙ c.if-has_count.false)
