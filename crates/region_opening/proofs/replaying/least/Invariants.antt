use Rattle.std.proofs.Common.{ℕ, ◌<◌, ◌≤◌}
use Rattle.std.specs.Prelude.{slice_index}
use Rattle.region_opening.proofs.replaying.least.Given as goal

abbrev pub invariant-loop-number : goal.invariant-loop-number
invariant-loop-number l = record { within : l.least ≤ l.target; each : (r : ℕ) → r < l.number-index → l.least ≤ slice_index l.from r }
