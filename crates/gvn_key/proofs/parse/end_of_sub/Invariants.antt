use Rattle.std.proofs.Common.{◌≡◌, ◌+◌, ◌-◌, ◌≤◌, length, drop}
use Rattle.std.specs.List.{position_or_len}
use Rattle.gvn_key.specs.KeyText.{is_end}
use Rattle.gvn_key.proofs.parse.end_of_sub.Given as goal

-- no byte so far ends it
abbrev pub invariant-loop-at : goal.invariant-loop-at
invariant-loop-at l = record { within : l.at ≤ length l.text; same : l.at + position_or_len is_end (drop l.at l.text) ≡ position_or_len is_end l.text }

abbrev pub decreases-loop-at : goal.decreases-loop-at
decreases-loop-at l = length l.text - l.at
