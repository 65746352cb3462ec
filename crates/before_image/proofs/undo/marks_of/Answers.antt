use Rattle.std.proofs.Common.{◌≡◌, List, Bool, ◌∷◌, ◌++◌, [], is_some, ap, sym, ◌∙◌}
use Rattle.std.specs.Ordering.{nat_cmp}
use Rattle.std.specs.BTreeMap.{get}
use Rattle.before_image.proofs.OldestImages.{marked_more}
use Rattle.before_image.proofs.undo.marks_of.Goals as goal

pub loop-block-preserved : goal.loop-block-preserved
loop-block-preserved c =
    c.in_ok-push.ensures.items
    ∙ ap (λ (x : Bool). c.loop-block.marks.items ++ x ∷ []) c.contains_key.ensures
    ∙ ap (λ (xs : List Bool). xs ++ is_some (get nat_cmp c.args.oldest.now c.loop-block.block-counter) ∷ []) c.loop-block.invariant
    ∙ sym (marked_more c.loop-block.block-counter (get nat_cmp c.args.oldest.now))
