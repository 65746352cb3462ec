use Rattle.std.proofs.Common.{◌≡◌, ◌++◌, take, map}
use Rattle.std.specs.List.{flat_map}
use Rattle.global_defs.specs.Extract.{update_line}
use Rattle.gvn_key.specs.Terms.{update_value}
use Rattle.gvn_model.specs.Entries.{entry_value}
use Rattle.jnl_extract.proofs.line.write_updates.Given as goal

abbrev pub invariant-loop-update : goal.invariant-loop-update
invariant-loop-update l = l.out ≡ l.fn.out ++ flat_map (update_line l.e.number (entry_value l.e)) (map update_value (take l.update-index l.updates))
