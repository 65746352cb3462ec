use Rattle.std.proofs.Common.{◌≡◌, fold, map, take}
use Rattle.global_defs.specs.Entry.{apply}
use Rattle.gvn_key.specs.Terms.{update_value}
use Rattle.gvn_globals.specs.Overlaid.{overlaid, AreGone}
use Rattle.gvn_globals.proofs.together.Changes.of.Given as goal

abbrev pub invariant-loop-update : goal.invariant-loop-update
invariant-loop-update l = (overlaid l.base l.changes.sets l.changes.gone ≡ fold apply l.base (map update_value (take l.update-index l.updates))) × AreGone l.base l.changes.gone
