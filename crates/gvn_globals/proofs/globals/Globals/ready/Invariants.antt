use Rattle.std.proofs.Common.{◌≡◌, map, take}
use Rattle.gvn_globals.specs.Lists.{listed_value}
use Rattle.gvn_globals.proofs.globals.Globals.ready.Given as goal

-- copies of the nodes so far
abbrev pub invariant-loop-node : goal.invariant-loop-node
invariant-loop-node l = l.all.items ≡ map listed_value (take l.node-index l.node-items)
