use Rattle.std.proofs.Common.{◌≡◌, ◌<◌, ◌+◌, ℕ, true, false, [], length, drop, get_or, ◌∙◌, ap, arith}
use Rattle.std.specs.Prelude.{nat_lt, not}
use Rattle.global_defs.specs.declared.limits.TheConstants.{MOST_REGIONS}
use Rattle.journal_defs.specs.Sequence.{REGIONS}
use Rattle.journal_defs.specs.Split.{mask_with}
use Rattle.tp_commit.specs.Parts.{mask_by}
use Rattle.tp_commit.proofs.Placing.{has_item, mask_small, mask_on, mask_end, shifted}
use Rattle.tp_commit.proofs.lists.mask_by.Goals.{then-not-is_empty, else-not-is_empty}
use Rattle.tp_commit.proofs.lists.mask_by.Goals as goal

pub overflow_add-mask : goal.overflow_add-mask
overflow_add-mask c =
    let lists = c.args.lists.now in
    let i = c.loop-region.region in
    let has = λ (r : ℕ). nat_lt 0 (length (get_or lists r [])) in
    let low : i < MOST_REGIONS = omega (arith, c.loop-region-test.true, c.requires) in
    let there = has_item lists i c.index-lists-region.result c.is_empty.result c.loop-region-test.true c.index-lists-region.is c.is_empty.ensures in
    let next = mask_on has i c.loop-region.mask (mask_by lists) true low (there ∙ ap not c.if-not-is_empty.true) c.loop-region.invariant in
    let small = mask_small has in
    let power = shifted i low in
    omega (arith, next, small, power)

pub loop-region-preserved : goal.loop-region-preserved
loop-region-preserved c =
    let lists = c.args.lists.now in
    let i = c.loop-region.region in
    let has = λ (r : ℕ). nat_lt 0 (length (get_or lists r [])) in
    let low : i < MOST_REGIONS = omega (arith, c.loop-region-test.true, c.requires) in
    let there = has_item lists i c.index-lists-region.result c.is_empty.result c.loop-region-test.true c.index-lists-region.is c.is_empty.ensures in
    let rest = mask_with has (drop (i + 1) REGIONS) in
    let power = shifted i low in
    let done : c.if-not-is_empty.mask + rest ≡ mask_by lists = elim c.if-not-is_empty.branch [
      | then-not-is_empty w ↦
          let next = mask_on has i c.loop-region.mask (mask_by lists) true low (there ∙ ap not w.if-not-is_empty.true) c.loop-region.invariant in
          omega (arith, next, power, w.mask-is)
      | else-not-is_empty w ↦
          let next = mask_on has i c.loop-region.mask (mask_by lists) false low (there ∙ ap not w.if-not-is_empty.false) c.loop-region.invariant in
          omega (arith, next, w.mask-is)
    ] in
    done

pub returns : goal.returns
returns c =
    let end = mask_end c.args.lists.now c.loop-region.region (omega (arith, c.loop-region-test.false)) (omega (arith, c.loop-region.auto.region-end, c.requires)) in
    omega (arith, c.loop-region.invariant, end)
