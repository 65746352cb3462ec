use Rattle.std.proofs.Common.{◌≡◌, ◌≤◌, true, List, length}
use Rattle.std.specs.List.{list_all, flat_map}
use Rattle.global_defs.specs.Key.{Sub}
use Rattle.global_defs.specs.Encoded.{encoded_sub}
use Rattle.global_defs.specs.Valid.{is_sub}
use Rattle.gvn_key.proofs.Subscripts.{IsPartRead}
use Rattle.gvn_key.proofs.decode.subs.Given as goal

-- of any subscripts that have this code those so far are read
abbrev pub invariant-loop-rest : goal.invariant-loop-rest
invariant-loop-rest l = record {
  shorter : length l.rest ≤ length l.bytes;
  read : (subs : List Sub) → list_all is_sub subs ≡ true → flat_map encoded_sub subs ≡ l.bytes → IsPartRead l.subs.items l.rest subs;
}

abbrev pub decreases-loop-rest : goal.decreases-loop-rest
decreases-loop-rest l = length l.rest
