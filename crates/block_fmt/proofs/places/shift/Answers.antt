use Rattle.std.proofs.Common.{ℕ, List, ◌∙◌, ap, arith, slice_set, get_or}
use Rattle.block_fmt.specs.Read.{moved}
use Rattle.block_fmt.proofs.Lists.{one_more_moved, moved_at}
use Rattle.block_fmt.proofs.places.shift.Goals as goal

pub overflow_sub-place : goal.overflow_sub-place
overflow_sub-place c =
    let inside = c.loop-place-test.true in
    let can = moved_at c.args.old c.args.new c.args.places.now c.loop-place.places c.loop-place.place-index inside c.requires.can c.loop-place.invariant in
    omega (arith, c.from.ensures, can.0, can.1)

pub overflow_cast-place : goal.overflow_cast-place
overflow_cast-place c =
    let inside = c.loop-place-test.true in
    let can = moved_at c.args.old c.args.new c.args.places.now c.loop-place.places c.loop-place.place-index inside c.requires.can c.loop-place.invariant in
    omega (arith, c.from.ensures, can.0, can.1)

pub loop-place-preserved : goal.loop-place-preserved
loop-place-preserved c =
    let i = c.loop-place.place-index in
    let inside = c.loop-place-test.true in
    let can = moved_at c.args.old c.args.new c.args.places.now c.loop-place.places i inside c.requires.can c.loop-place.invariant in
    ap (λ (x : ℕ). slice_set c.loop-place.places i (moved c.args.old c.args.new x)) (c.from.ensures ∙ can.0)
    ∙ ap (λ (l : List ℕ). slice_set l i (moved c.args.old c.args.new (get_or c.args.places.now i 0))) c.loop-place.invariant
    ∙ one_more_moved (moved c.args.old c.args.new) c.args.places.now i 0 inside
