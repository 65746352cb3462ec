use Rattle.std.proofs.Common.{◌≡◌, ◌≤◌, map, take}
use Rattle.gvn_key.specs.Terms.{update_value}
use Rattle.block_laws.specs.Nodes.{updates_in}
use Rattle.gvt_leaf.specs.Stored.{sets_in}
use Rattle.region_store.proofs.counting.count_sets_in.Given as goal

abbrev pub invariant-loop-update : goal.invariant-loop-update
invariant-loop-update l = record {
  count : l.sets ≡ sets_in (updates_in l.directory.patterns l.region (map update_value (take l.update-index l.updates)));
  few : l.sets ≤ l.update-index;
}
