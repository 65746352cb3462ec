use Rattle.std.proofs.Common.{◌≡◌, ◌≤◌, length, take}
use Rattle.global_defs.specs.Encoded.{significant}
use Rattle.gvn_key.proofs.encoding.significant.Given as goal

-- only zeros were left out
abbrev pub invariant-loop-end : goal.invariant-loop-end
invariant-loop-end l = record { within : l.end ≤ length l.digits; same : significant (take l.end l.digits) ≡ significant l.digits }

abbrev pub decreases-loop-end : goal.decreases-loop-end
decreases-loop-end l = l.end
