use Rattle.region_store.proofs.Marking.{AreMarkedTo}
use Rattle.region_store.proofs.flushing.mark_dirty.Given as goal

abbrev pub invariant-loop-number : goal.invariant-loop-number
invariant-loop-number l = AreMarkedTo l.pool.dirty l.fn.imaged l.numbers l.number-index l.imaged
