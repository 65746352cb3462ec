use Rattle.std.proofs.Common.{◌≡◌, fold, map, take}
use Rattle.global_defs.specs.Entry.{apply}
use Rattle.gvn_key.specs.Terms.{update_value}
use Rattle.block_laws.specs.Nodes.{updates_in}
use Rattle.region_store.specs.Region.{IsChanged}
use Rattle.region_opening.proofs.replaying.replay_updates.Given as goal

abbrev pub invariant-loop-update : goal.invariant-loop-update
invariant-loop-update l = record {
  made : l.region.globals ≡ fold apply l.fn.region.globals (updates_in l.directory.patterns l.number (map update_value (take l.update-index l.updates)));
  changed : IsChanged l.fn.region l.region;
}
