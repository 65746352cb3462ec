use Rattle.std.proofs.Common.{◌≡◌, ◌++◌, false, drop}
use Rattle.gvn_key.specs.Decoding.{unescaped}
use Rattle.gvn_key.proofs.decode.unescaped.Given as goal

-- the bytes so far and those that the rest stands for
abbrev pub invariant-loop-byte : goal.invariant-loop-byte
invariant-loop-byte l = l.made ++ unescaped l.escaping (drop l.byte-index l.bytes) ≡ unescaped false l.bytes
