use Rattle.std.proofs.Common.{◌≡◌, map, is_some}
use Rattle.std.specs.Ordering.{nat_cmp}
use Rattle.std.specs.BTreeMap.{get}
use Rattle.before_image.specs.Undoing.{images_below}
use Rattle.before_image.proofs.undo.marks_of.Given as goal

abbrev pub invariant-loop-block : goal.invariant-loop-block
invariant-loop-block l = l.marks.items ≡ map is_some (images_below l.block-counter (get nat_cmp l.oldest))
