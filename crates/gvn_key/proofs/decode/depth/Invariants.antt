use Rattle.std.proofs.Common.{◌≡◌, ◌+◌, ◌≤◌, true, List, length}
use Rattle.std.specs.List.{list_all, flat_map}
use Rattle.global_defs.specs.Key.{Sub}
use Rattle.global_defs.specs.Encoded.{encoded_sub}
use Rattle.global_defs.specs.Valid.{is_sub}
use Rattle.gvn_key.proofs.Walks.{IsBehind}
use Rattle.gvn_key.proofs.decode.depth.Given as goal

-- of any subscripts that have this code so many are counted
abbrev pub invariant-loop-last : goal.invariant-loop-last
invariant-loop-last l = record {
  shorter : l.count + length l.rest ≤ length l.bytes;
  read : (subs : List Sub) → list_all is_sub subs ≡ true → flat_map encoded_sub subs ≡ l.bytes → IsBehind l.count subs l.rest;
}

abbrev pub decreases-loop-last : goal.decreases-loop-last
decreases-loop-last l = length l.rest
