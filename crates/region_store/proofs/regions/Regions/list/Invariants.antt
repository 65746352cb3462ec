use Rattle.std.proofs.Common.{◌≡◌, map}
use Rattle.gvt_leaf.specs.Listed.{node_value}
use Rattle.region_store.proofs.Sharing.{of_first}
use Rattle.region_store.proofs.regions.Regions.list.Given as goal

-- the nodes of the regions so far
abbrev pub invariant-loop-region : goal.invariant-loop-region
invariant-loop-region l = map node_value l.all.items ≡ of_first l.self l.region-index
