use Rattle.std.proofs.Common.{ap, sym, ◌∙◌, is_some, arith}
use Rattle.std.specs.Ordering.{nat_cmp}
use Rattle.std.specs.BTreeMap.{get}
use Rattle.before_image.proofs.OldestImages.{seen_at, seen_past, past_test}
use Rattle.before_image.proofs.undo.Undo.has_image.Goals as goal

pub returns-then-block-self : goal.returns-then-block-self
returns-then-block-self c =
    c.contains_key.ensures ∙ ap is_some (sym (seen_at c.self.inside.count (get nat_cmp c.self.inside.oldest) c.args.self.now c.args.block c.self.view_is c.if-block-self.true))

pub returns-else-block-self : goal.returns-else-block-self
returns-else-block-self c =
    past_test c.self.inside.count c.args.block (omega (arith, c.if-block-self.false))
    ∙ ap is_some (sym (seen_past c.self.inside.count (get nat_cmp c.self.inside.oldest) c.args.self.now c.args.block c.self.view_is (omega (arith, c.if-block-self.false))))
