use Rattle.std.proofs.Common.{◌≡◌, ◌++◌, map, drop}
use Rattle.std.specs.List.{flat_map, AllByRecursion}
use Rattle.global_defs.specs.Fields.{IsUpdate, spelled_update}
use Rattle.global_defs.specs.Prefix.{IsPrefix}
use Rattle.gvn_key.specs.Terms.{update_value}
use Rattle.repl_wire.proofs.writing.write_updates.Given as goal

abbrev pub invariant-loop-update : goal.invariant-loop-update
invariant-loop-update l = (l.out ++ flat_map spelled_update (map update_value (drop l.update-index l.updates)) ≡ l.fn.out ++ flat_map spelled_update (map update_value l.updates)) × AllByRecursion IsUpdate (map update_value (drop l.update-index l.updates)) × IsPrefix l.fn.out l.out
