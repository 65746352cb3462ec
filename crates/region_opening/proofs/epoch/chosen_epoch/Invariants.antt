use Rattle.std.proofs.Common.{◌≡◌, ◌≤◌, List, length, drop, None}
use Rattle.journal_defs.specs.Sequence.{Placed}
use Rattle.journal_defs.specs.Epochs.{last_epoch}
use Rattle.region_opening.specs.Signs.{Say}
use Rattle.region_opening.proofs.epoch.chosen_epoch.Given as goal

-- no epoch of the records behind is chosen
abbrev pub invariant-loop-end : goal.invariant-loop-end
invariant-loop-end l = record { within : l.end ≤ length l.signs; none : (journal : List Placed) → Say l.signs journal → last_epoch l.instance l.target (drop l.end journal) ≡ None }

abbrev pub decreases-loop-end : goal.decreases-loop-end
decreases-loop-end l = l.end
