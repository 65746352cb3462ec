use Rattle.std.proofs.Common.{map, take}
use Rattle.std.specs.List.{AllByRecursion}
use Rattle.global_defs.specs.Fields.{IsUpdate}
use Rattle.gvn_key.specs.Terms.{update_value}
use Rattle.region_opening.proofs.entries.are_formed.Given as goal

abbrev pub invariant-loop-update : goal.invariant-loop-update
invariant-loop-update l = AllByRecursion IsUpdate (map update_value (take l.update-index l.update-items))
