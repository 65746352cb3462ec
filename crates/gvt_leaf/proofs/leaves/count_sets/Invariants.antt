use Rattle.std.proofs.Common.{◌≡◌, ◌≤◌, ◌+◌, map, drop}
use Rattle.gvn_key.specs.Terms.{update_value}
use Rattle.gvt_leaf.specs.Stored.{sets_in}
use Rattle.gvt_leaf.proofs.leaves.count_sets.Given as goal

abbrev pub invariant-loop-update : goal.invariant-loop-update
invariant-loop-update l = record {
  count : l.sets + sets_in (map update_value (drop l.update-index l.updates)) ≡ sets_in (map update_value l.updates);
  few : l.sets ≤ l.update-index;
}
