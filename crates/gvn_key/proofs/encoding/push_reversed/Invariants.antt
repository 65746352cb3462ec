use Rattle.std.proofs.Common.{◌≡◌, ◌-◌, ◌++◌, take, map}
use Rattle.gvn_key.proofs.encoding.push_reversed.Given as goal

-- the digits so far are written
abbrev pub invariant-loop-digit : goal.invariant-loop-digit
invariant-loop-digit l = l.out ≡ l.fn.out ++ map (λ d. 105 - d) (take l.digit-index l.digits)
