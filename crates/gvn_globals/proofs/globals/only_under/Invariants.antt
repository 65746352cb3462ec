use Rattle.std.proofs.Common.{◌≡◌, map, take}
use Rattle.std.specs.Prelude.{filter}
use Rattle.global_defs.specs.Entry.{is_under}
use Rattle.gvn_globals.specs.Lists.{listed_value}
use Rattle.gvn_globals.proofs.globals.only_under.Given as goal

-- those of the nodes so far
abbrev pub invariant-loop-node : goal.invariant-loop-node
invariant-loop-node l = map listed_value l.list.items ≡ filter (λ e. is_under l.top e.0) (map listed_value (take l.node-index l.nodes))
