use Rattle.std.proofs.Common.{◌≡◌, ◌<◌, ◌≤◌, ℕ, length, map, slice_get, Some}
use Rattle.gvn_key.specs.Terms.{update_value}
use Rattle.block_laws.specs.Nodes.{updates_in}
use Rattle.gvt_leaf.specs.Stored.{HasRoom, sets_in}
use Rattle.region_store.specs.Region.{Standing, stored_in}
use Rattle.region_store.specs.Joined.{IsSameJoined, AreChanged}
use Rattle.region_store.proofs.regions.Regions.reserve.Given as goal

abbrev pub invariant-loop-number : goal.invariant-loop-number
invariant-loop-number l = record {
  few : l.number ≤ length l.fn.self.regions;
  below : (r : ℕ) (s : Standing) → r < l.number → slice_get l.self.regions r ≡ Some s → HasRoom (stored_in s) (sets_in (updates_in l.fn.self.patterns r (map update_value l.updates)));
  same : IsSameJoined l.fn.self l.self;
  changed : AreChanged l.fn.self l.self;
}
