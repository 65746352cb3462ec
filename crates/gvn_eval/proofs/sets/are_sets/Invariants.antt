use Rattle.std.proofs.Common.{◌≡◌, true, map, take}
use Rattle.std.specs.List.{list_all}
use Rattle.gvn_key.specs.Terms.{statement_value}
use Rattle.gvn_eval.specs.Sets.{is_setting}
use Rattle.gvn_eval.proofs.sets.are_sets.Given as goal

-- each statement so far sets a node
abbrev pub invariant-loop-statement : goal.invariant-loop-statement
invariant-loop-statement l = list_all is_setting (map statement_value (take l.statement-index l.statements)) ≡ true
