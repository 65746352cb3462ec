use Rattle.std.proofs.Common.{◌≤◌, map, take}
use Rattle.std.specs.List.{AllByRecursion}
use Rattle.global_defs.specs.Entry.{Reign}
use Rattle.gvn_model.specs.Reigns.{reign_value}
use Rattle.ship_stands.proofs.site.have_begun.Given as goal

abbrev pub invariant-loop-i : goal.invariant-loop-i
invariant-loop-i l = AllByRecursion (λ (r : Reign). r.start ≤ l.length) (take l.i (map reign_value l.reigns))
