use Rattle.std.proofs.Common.{◌-◌, ◌≤◌, length, not}
use Rattle.std.specs.Char.{is_ascii_alphanumeric}
use Rattle.gvn_key.specs.Places.{AllFail}
use Rattle.gvn_key.proofs.places.other.Given as goal

abbrev pub invariant-loop-at : goal.invariant-loop-at
invariant-loop-at l = AllFail (λ b. not (is_ascii_alphanumeric b)) l.bytes 0 l.at × (l.at ≤ length l.bytes)

abbrev pub decreases-loop-at : goal.decreases-loop-at
decreases-loop-at l = length l.bytes - l.at

abbrev pub invariant-loop-at-2 : goal.invariant-loop-at-2
invariant-loop-at-2 l = AllFail (λ b. not (is_ascii_alphanumeric b)) l.bytes 0 l.at × (l.at ≤ length l.bytes)

abbrev pub decreases-loop-at-2 : goal.decreases-loop-at-2
decreases-loop-at-2 l = length l.bytes - l.at
