use Rattle.std.proofs.Common.{◌≡◌, ◌≤◌, length, drop, map, None}
use Rattle.journal_defs.specs.Epochs.{last_epoch}
use Rattle.jnl_record.specs.Values.{placed_value}
use Rattle.mupip_recover.proofs.epoch.chosen_epoch.Given as goal

-- no epoch of the records behind is chosen
abbrev pub invariant-loop-end : goal.invariant-loop-end
invariant-loop-end l = record { within : l.end ≤ length l.journal; none : last_epoch l.instance l.target (map placed_value (drop l.end l.journal)) ≡ None }

abbrev pub decreases-loop-end : goal.decreases-loop-end
decreases-loop-end l = l.end
