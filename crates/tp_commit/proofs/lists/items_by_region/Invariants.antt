use Rattle.std.proofs.Common.{◌≡◌, map, take}
use Rattle.gvn_key.specs.Terms.{update_value}
use Rattle.journal_defs.specs.Fit.{region_of_update}
use Rattle.journal_defs.specs.Sequence.{REGIONS}
use Rattle.journal_defs.specs.Split.{items_for}
use Rattle.tp_commit.proofs.lists.items_by_region.Given as goal

-- the items so far, of the first so many regions
abbrev pub invariant-loop-i : goal.invariant-loop-i
invariant-loop-i l = l.lists.items ≡ take l.count (map (λ r. items_for (region_of_update l.directory.patterns) r (map update_value (take l.i l.list))) REGIONS)
