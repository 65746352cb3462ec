use Rattle.std.proofs.Common.{◌≡◌, ◌*◌, take}
use Rattle.gvn_key.proofs.fronts.is_same_long.Given as goal

-- the words so far are the same
abbrev pub invariant-loop-i : goal.invariant-loop-i
invariant-loop-i l = take (l.i * 8) l.one ≡ take (l.i * 8) l.other
