use Rattle.std.proofs.Common.{◌≡◌, ◌≤◌, true, List, length, drop}
use Rattle.std.specs.List.{list_all, flat_map}
use Rattle.global_defs.specs.Key.{Sub}
use Rattle.global_defs.specs.Encoded.{encoded_sub}
use Rattle.global_defs.specs.Valid.{is_sub}
use Rattle.gvn_key.proofs.decode.behind.Given as goal

-- of any subscripts that have this code so many are left out
abbrev pub invariant-loop-i : goal.invariant-loop-i
invariant-loop-i l = record {
  shorter : length l.rest ≤ length l.bytes;
  read : (subs : List Sub) → list_all is_sub subs ≡ true → flat_map encoded_sub subs ≡ l.bytes → l.rest ≡ flat_map encoded_sub (drop l._i subs);
}
