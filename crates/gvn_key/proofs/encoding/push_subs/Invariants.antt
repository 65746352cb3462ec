use Rattle.std.proofs.Common.{◌≡◌, ◌++◌, take, map}
use Rattle.std.specs.List.{flat_map}
use Rattle.global_defs.specs.Key.{sub_of}
use Rattle.global_defs.specs.Encoded.{encoded_sub}
use Rattle.gvn_key.proofs.encoding.push_subs.Given as goal

-- the subscripts so far are encoded
abbrev pub invariant-loop-sub : goal.invariant-loop-sub
invariant-loop-sub l = l.out ≡ l.fn.out ++ flat_map encoded_sub (map sub_of (take l.sub-index l.subs))
