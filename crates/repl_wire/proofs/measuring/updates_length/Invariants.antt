use Rattle.std.proofs.Common.{◌≡◌, ◌+◌, map, drop}
use Rattle.std.specs.List.{AllByRecursion}
use Rattle.global_defs.specs.Fields.{IsUpdate, spelled_update}
use Rattle.gvn_key.specs.Terms.{update_value}
use Rattle.repl_wire.specs.Totals.{total}
use Rattle.repl_wire.proofs.measuring.updates_length.Given as goal

abbrev pub invariant-loop-update : goal.invariant-loop-update
invariant-loop-update l = (l.sum + total spelled_update (map update_value (drop l.update-index l.updates)) ≡ total spelled_update (map update_value l.updates)) × AllByRecursion IsUpdate (map update_value (drop l.update-index l.updates))
