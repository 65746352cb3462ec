use Rattle.std.proofs.Common.{◌≡◌, replicate, None}
use Rattle.mupip_recover.proofs.slots.empty_slots.Given as goal

abbrev pub invariant-loop-slot : goal.invariant-loop-slot
invariant-loop-slot l = l.made.items ≡ replicate l._slot None
