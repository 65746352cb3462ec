use Rattle.std.proofs.Common.{◌≡◌, map}
use Rattle.std.specs.Map.Iter.{deref_pair}
use Rattle.gvn_globals.specs.Nodes.{entries_of}
use Rattle.gvn_globals.specs.Lists.{listed_value}
use Rattle.gvn_globals.proofs.globals.list_between.Given as goal

-- the nodes so far
abbrev pub invariant-loop-node : goal.invariant-loop-node
invariant-loop-node l = map listed_value l.list.items ≡ entries_of (map deref_pair l.yielded)
