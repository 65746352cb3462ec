use Rattle.repl_wire.proofs.Feeding.{framed_within, fresh_open}
use Rattle.repl_wire.proofs.frames.Frames.new.Goals as goal

pub invariant_of-result : goal.invariant_of-result
invariant_of-result c = rw c.new.ensures.items (framed_within c.new-2.result c.new-2.ensures (fresh_open c.new-2.result c.new-2.ensures))
