use Rattle.std.proofs.Common.{◌≡◌, fold, map, take, drop}
use Rattle.global_defs.specs.Entry.{apply}
use Rattle.gvn_key.specs.Terms.{update_value}
use Rattle.region_store.specs.Joined.{joined, HasRoomFor, AreChanged}
use Rattle.region_store.proofs.regions.Regions.make.Given as goal

abbrev pub invariant-loop-update : goal.invariant-loop-update
invariant-loop-update l = record {
  made : joined l.self ≡ fold apply (joined l.fn.self) (map update_value (take l.update-index l.updates));
  room : HasRoomFor l.self (map update_value (drop l.update-index l.updates));
  changed : AreChanged l.fn.self l.self;
}
