use Rattle.std.proofs.Common.{◌≡◌, map, not, take}
use Rattle.std.specs.Prelude.{filter}
use Rattle.std.specs.FinMap as globals
use Rattle.gvn_globals.specs.Lists.{listed_value}
use Rattle.gvn_globals.proofs.globals.Globals.beyond.Given as goal

-- the keys of the nodes so far that the others don't have
abbrev pub invariant-loop-node : goal.invariant-loop-node
invariant-loop-node l = l.keys.items ≡ filter (λ k. not (globals.contains_key l.other k)) (map (λ e. e.0) (map listed_value (take l.node-index l.node-items)))
