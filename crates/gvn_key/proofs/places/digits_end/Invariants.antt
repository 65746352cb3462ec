use Rattle.std.proofs.Common.{◌-◌, ◌≤◌, length, not}
use Rattle.std.specs.Char.{is_ascii_digit}
use Rattle.gvn_key.specs.Places.{AllFail}
use Rattle.gvn_key.proofs.places.digits_end.Given as goal

abbrev pub invariant-loop-at : goal.invariant-loop-at
invariant-loop-at l = AllFail (λ b. not (is_ascii_digit b)) l.bytes 0 l.at × (l.at ≤ length l.bytes)

abbrev pub decreases-loop-at : goal.decreases-loop-at
decreases-loop-at l = length l.bytes - l.at
