use Rattle.std.proofs.Common.{◌≤◌, map, length}
use Rattle.gvn_key.specs.Terms.{update_value}
use Rattle.region_opening.specs.Replaying.{AreBecome, IsGivenEntry}
use Rattle.region_opening.proofs.replaying.make_entry.Given as goal

abbrev pub invariant-loop-place : goal.invariant-loop-place
invariant-loop-place l = record {
  become : AreBecome (IsGivenEntry l.directory.patterns l.from l.number (map update_value l.updates)) l.place l.fn.regions.items l.regions.items;
  few : l.place ≤ length l.fn.regions.items;
}
