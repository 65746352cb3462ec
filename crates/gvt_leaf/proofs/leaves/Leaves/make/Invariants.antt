use Rattle.std.proofs.Common.{◌≡◌, fold, map, take, drop}
use Rattle.global_defs.specs.Entry.{apply}
use Rattle.gvn_key.specs.Terms.{update_value}
use Rattle.gvt_leaf.specs.Clean.{KeepsClean}
use Rattle.gvt_leaf.specs.Stored.{sets_in, HasRoom}
use Rattle.gvt_leaf.proofs.leaves.Leaves.make.Given as goal

abbrev pub invariant-loop-update : goal.invariant-loop-update
invariant-loop-update l = record {
  made : l.self.globals ≡ fold apply l.fn.self.globals (map update_value (take l.update-index l.updates));
  room : HasRoom l.self (sets_in (map update_value (drop l.update-index l.updates)));
  clean : KeepsClean l.fn.self.pool l.self.pool;
}
