use Rattle.std.proofs.Common.{◌≡◌, map, take, Some}
use Rattle.gvn_key.specs.Terms.{statement_value}
use Rattle.gvn_eval.specs.Sets.{setting}
use Rattle.gvn_eval.proofs.sets.updates_of.Given as goal

-- each statement so far sets a node
abbrev pub invariant-loop-statement : goal.invariant-loop-statement
invariant-loop-statement l = map setting (map statement_value (take l.statement-index l.statements)) ≡ map Some l.updates
