use Rattle.std.proofs.Common.{◌≡◌, ◌≤◌, ◌-◌, true, length, take, drop, nat_eq}
use Rattle.std.specs.List.{AllByRecursion, starts_with}
use Rattle.gvt_leaf.proofs.edits.run_end.Given as goal

abbrev pub invariant-loop-end : goal.invariant-loop-end
invariant-loop-end l = record {
  order : l.from ≤ l.end;
  inside : l.end ≤ length l.leaf.cells;
  run : AllByRecursion (λ c. starts_with nat_eq c.0 l.code ≡ true) (take (l.end - l.from) (drop l.from l.leaf.cells));
}

abbrev pub decreases-loop-end : goal.decreases-loop-end
decreases-loop-end l = l.count - l.end
