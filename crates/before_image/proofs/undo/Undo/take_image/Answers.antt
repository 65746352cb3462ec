use Rattle.std.proofs.Common.{◌≡◌, arith, rules, sym, subst, ◌∙◌, None, is_some}
use Rattle.std.specs.Option.{IsSome}
use Rattle.std.specs.Ordering.{nat_cmp}
use Rattle.std.specs.BTreeMap.{get}
use Rattle.before_image.proofs.OldestImages.{seen_same, seen_put, none_of, some_of}
use Rattle.before_image.proofs.undo.Undo.take_image.Goals as goal

pub returns-then-block-self-clause-ok : goal.returns-then-block-self-clause-ok
returns-then-block-self-clause-ok c =
    seen_same c.self.inside.count (get nat_cmp c.self.inside.oldest) c.args.self.now c.args.block c.args.image.now c.self.view_is (λ inside. absurd (omega (arith, inside, c.if-block-self.true)))

pub returns-then-contains_key-clause-ok : goal.returns-then-contains_key-clause-ok
returns-then-contains_key-clause-ok c =
    seen_same c.self.inside.count (get nat_cmp c.self.inside.oldest) c.args.self.now c.args.block c.args.image.now c.self.view_is
    (λ inside. some_of (get nat_cmp c.self.inside.oldest c.args.block) (sym c.contains_key.ensures ∙ c.if-contains_key.true))

pub returns-clause-ok : goal.returns-clause-ok
returns-clause-ok c =
    seen_put c.self.inside.count c.self.inside.oldest c.insert.new.self c.args.self.now c.args.block c.args.image.now c.self.view_is
    (none_of (get nat_cmp c.self.inside.oldest c.args.block) (sym c.contains_key.ensures ∙ c.if-contains_key.false))
    (search rules)
