use Rattle.std.proofs.Common.{◌≡◌, ◌≤◌, ℕ, fold, map, take}
use Rattle.std.specs.FinMap.{len}
use Rattle.global_defs.specs.declared.limits.TheConstants.{MOST_NODES}
use Rattle.global_defs.specs.Entry.{apply}
use Rattle.gvn_key.specs.Terms.{update_value}
use Rattle.region_store.specs.Joined.{joined}
use Rattle.site_store.proofs.fitting.check_each.Given as goal

abbrev pub invariant-loop-update : goal.invariant-loop-update
invariant-loop-update l = record {
  made : l.overlay ≡ fold apply (joined l.fn.globals) (map update_value (take l.update-index l.update-items));
  fits : (k : ℕ) → 1 ≤ k → k ≤ l.update-index → len (fold apply (joined l.fn.globals) (map update_value (take k l.update-items))) ≤ MOST_NODES;
}
