use Rattle.std.proofs.Common.{◌≡◌}
use Rattle.std.specs.List.{AllByRecursion}
use Rattle.global_defs.specs.Fields.{IsReign}
use Rattle.global_defs.proofs.Starts.{last_start}
use Rattle.global_defs.specs.Rising.{StartsRise}
use Rattle.ship_stands.proofs.histories.history.Given as goal

abbrev pub invariant-loop-told : goal.invariant-loop-told
invariant-loop-told l = record { form : AllByRecursion IsReign l.reigns; rising : StartsRise 0 l.reigns; last : last_start 0 l.reigns ≡ l.last }
