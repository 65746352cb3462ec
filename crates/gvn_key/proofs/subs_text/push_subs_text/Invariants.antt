use Rattle.std.proofs.Common.{◌≡◌, ◌≤◌, true, List, length}
use Rattle.std.specs.List.{list_all, flat_map}
use Rattle.global_defs.specs.Key.{Sub}
use Rattle.global_defs.specs.Encoded.{encoded_sub}
use Rattle.global_defs.specs.Valid.{is_sub}
use Rattle.gvn_key.proofs.SubTexts.{IsPartWritten}
use Rattle.gvn_key.proofs.subs_text.push_subs_text.Given as goal

-- of any subscripts that have this code those so far are written
abbrev pub invariant-loop-last : goal.invariant-loop-last
invariant-loop-last l = record {
  shorter : length l.rest ≤ length l.bytes;
  written : (subs : List Sub) → list_all is_sub subs ≡ true → flat_map encoded_sub subs ≡ l.bytes → IsPartWritten l.lead l.rest subs l.fn.out l.out;
}

abbrev pub decreases-loop-last : goal.decreases-loop-last
decreases-loop-last l = length l.rest
