use Rattle.std.proofs.Common.{◌≡◌, ◌≤◌, length}
use Rattle.gvn_key.specs.Stripped.{stripped}
use Rattle.gvn_key.proofs.encoding.stripped.Given as goal

-- only zeros were left out
abbrev pub invariant-loop-rest : goal.invariant-loop-rest
invariant-loop-rest l = record { same : stripped l.rest ≡ stripped l.digits; shorter : length l.rest ≤ length l.digits }

abbrev pub decreases-loop-rest : goal.decreases-loop-rest
decreases-loop-rest l = length l.rest
