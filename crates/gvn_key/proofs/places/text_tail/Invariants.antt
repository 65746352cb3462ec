use Rattle.std.proofs.Common.{◌-◌, ◌≤◌, length, nat_lt}
use Rattle.gvn_key.specs.Places.{AllFail}
use Rattle.gvn_key.proofs.places.text_tail.Given as goal

abbrev pub invariant-loop-at : goal.invariant-loop-at
invariant-loop-at l = AllFail (λ b. nat_lt b 2) l.bytes 0 l.at × (l.at ≤ length l.bytes)

abbrev pub decreases-loop-at : goal.decreases-loop-at
decreases-loop-at l = length l.bytes - l.at
