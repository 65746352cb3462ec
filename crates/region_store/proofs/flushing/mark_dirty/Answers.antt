use Rattle.std.proofs.Common.{arith, refl, get_or}
use Rattle.region_store.proofs.Marking.{none_marked, marked_next, all_marked}
use Rattle.region_store.proofs.flushing.mark_dirty.Goals as goal

pub loop-number-init : goal.loop-number-init
loop-number-init c = none_marked c.args.pool.now.dirty c.args.imaged.now c.dirty_numbers-numbers.result.now c.dirty_numbers-numbers.ensures.numbers

pub loop-number-preserved : goal.loop-number-preserved
loop-number-preserved c =
    let l = c.loop-number in
    marked_next c.args.pool.now.dirty c.args.imaged.now c.dirty_numbers-numbers.result.now l.number-index (get_or c.dirty_numbers-numbers.result.now l.number-index 0) l.imaged c.mark.new.self c.loop-number-test.true refl c.mark.ensures.marked l.invariant

pub returns-clause-marks : goal.returns-clause-marks
returns-clause-marks c =
    let l = c.loop-number in
    let end = c.loop-number-test.false in
    all_marked c.args.pool.now.dirty c.args.imaged.now c.dirty_numbers-numbers.result.now l.number-index _ l.imaged (omega (arith, end)) c.dirty_numbers-numbers.ensures.marks l.invariant
