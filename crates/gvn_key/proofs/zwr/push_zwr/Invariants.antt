use Rattle.std.proofs.Common.{◌≡◌, ◌++◌, drop}
use Rattle.gvn_key.specs.Pieces.{remaining_text}
use Rattle.gvn_key.specs.declared.zwr.Open.TheVariants.{Nothing}
use Rattle.gvn_key.proofs.zwr.push_zwr.Given as goal

-- what is written and what is still to be written make the whole
abbrev pub invariant-loop-byte : goal.invariant-loop-byte
invariant-loop-byte l = l.out ++ remaining_text l.piece (drop l.byte-index l.bytes) ≡ l.fn.out ++ remaining_text Nothing l.bytes
