use Rattle.std.proofs.Common.{◌≡◌, true, map, Some}
use Rattle.std.specs.List.{list_all}
use Rattle.std.specs.Vec.Iter.{into_iter_items}
use Rattle.gvn_key.specs.Terms.{statement_value}
use Rattle.gvn_eval.specs.Sets.{setting, is_setting}
use Rattle.gvn_eval.proofs.sets.moved_updates.Given as goal

-- each statement so far became an update, and each that is left sets a node
abbrev pub invariant-loop-statement : goal.invariant-loop-statement
invariant-loop-statement l = record {
  made : map setting (map statement_value l.yielded) ≡ map Some l.updates;
  left : list_all is_setting (map statement_value (into_iter_items l.statement-iterator)) ≡ true;
}
