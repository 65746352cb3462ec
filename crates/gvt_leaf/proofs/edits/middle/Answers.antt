use Rattle.std.proofs.Common.{◌+◌, ◌-◌, ◌/◌, arith}
use Rattle.block_fmt.proofs.CellPlaces.{size_split}
use Rattle.block_fmt.proofs.Changed.{leaf_few}
use Rattle.gvt_leaf.proofs.edits.middle.Goals as goal

pub overflow_add-high : goal.overflow_add-high
overflow_add-high c = omega (arith, c.len-high.ensures.len, leaf_few c.args.leaf.now c.len-high.ensures.form)

pub overflow_mul-used_before : goal.overflow_mul-used_before
overflow_mul-used_before c =
    let m = c.loop-high.low + (c.loop-high.high - c.loop-high.low) / 2 in
    omega (arith, c.used_before.ensures, size_split m c.args.leaf.now.cells, c.used-used.ensures.form.fits)
