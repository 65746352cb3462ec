use Rattle.std.proofs.Common.{take, length}
use Rattle.gvn_key.specs.Rests.{IsAt}
use Rattle.gvn_key.proofs.parts.is_code.Given as goal

-- the bytes so far are taken
abbrev pub invariant-loop-byte : goal.invariant-loop-byte
invariant-loop-byte l = IsAt l.prefix (take l.byte-index l.bytes) (length l.bytes)
