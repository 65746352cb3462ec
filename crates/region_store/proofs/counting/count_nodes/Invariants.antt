use Rattle.std.proofs.Common.{◌≡◌, ◌≤◌, ◌*◌}
use Rattle.block_laws.specs.Nodes.{sum_below}
use Rattle.region_store.specs.Counts.{nodes_at}
use Rattle.region_store.proofs.counting.count_nodes.Given as goal

abbrev pub invariant-loop-region : goal.invariant-loop-region
invariant-loop-region l = record {
  count : l.nodes ≡ sum_below l.region-index (nodes_at l.regions);
  few : l.nodes ≤ 4294967295 * l.region-index;
}
