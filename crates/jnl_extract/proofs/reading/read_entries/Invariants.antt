use Rattle.std.proofs.Common.{length}
use Rattle.jnl_extract.specs.Values.{stage_value}
use Rattle.jnl_extract.proofs.Fronts.{IsRead}
use Rattle.jnl_extract.proofs.reading.read_entries.Given as goal

abbrev pub invariant-loop-alloc : goal.invariant-loop-alloc
invariant-loop-alloc l = IsRead l.text l.fn.site l.from (stage_value l.stage) l.left

abbrev pub decreases-loop-alloc : goal.decreases-loop-alloc
decreases-loop-alloc l = length l.left
