use Rattle.std.proofs.Common.{◌+◌, arith}
use Rattle.gvt_leaf.proofs.Edited.{fits_ahead, fits_after, fits_next}
use Rattle.gvt_leaf.proofs.edits.chosen.Goals as goal

pub returns-then-place-at : goal.returns-then-place-at
returns-then-place-at c =
    fits_ahead c.args.leaf.now.cells c.args.place c.args.size c.used-used.ensures.form.fits c.requires.size c.middle-at.result c.middle-at.ensures.inside c.if-place-at.true c.middle-at.ensures.at

pub returns-then-used-size : goal.returns-then-used-size
returns-then-used-size c =
    fits_after c.args.leaf.now.cells c.args.place c.args.size c.used-used.ensures.form.fits c.requires.size c.middle-at.result c.middle-at.ensures.inside (omega (arith, c.if-place-at.false))
    (omega (arith, c.if-used-size.true, c.used-used.ensures.used, c.used_before.ensures))

pub returns-else-used-size : goal.returns-else-used-size
returns-else-used-size c =
    fits_next c.args.leaf.now.cells c.args.place c.args.size c.used-used.ensures.form.fits c.requires.size (c.middle-at.result + 1) (omega (arith, c.requires.place, c.if-place-at.false)) (omega (arith, c.if-place-at.false))
    (c.middle-at.ensures.more (omega (arith, c.requires.place, c.if-place-at.false)))
