use Rattle.std.proofs.Common.{◌≡◌, ◌-◌, true, false, get_or, length, sym, ap, ◌∙◌, arith}
use Rattle.repl_link.specs.Items.{is_end}
use Rattle.repl_link.proofs.ItemLists.{before_none, before_last, before_all}
use Rattle.repl_link.proofs.items.before_mark.Goals as goal

pub returns-then-count-eq0-clause-before : goal.returns-then-count-eq0-clause-before
returns-then-count-eq0-clause-before c = before_none c.args.items.now (omega (arith, c.if-count-eq0.true))

pub returns-then-is_end-clause-before : goal.returns-then-is_end-clause-before
returns-then-is_end-clause-before c = before_last c.args.items.now (length c.args.items.now - 1) c.index-items-last.result c.requires (omega (arith, c.if-count-eq0.false)) (sym (c.is_end.ensures ∙ ap is_end c.index-items-last.is) ∙ c.if-is_end.true)

pub returns-clause-before : goal.returns-clause-before
returns-clause-before c = before_all c.args.items.now (length c.args.items.now - 1) c.index-items-last.result c.requires (omega (arith, c.if-count-eq0.false)) (sym (c.is_end.ensures ∙ ap is_end c.index-items-last.is) ∙ c.if-is_end.false)
