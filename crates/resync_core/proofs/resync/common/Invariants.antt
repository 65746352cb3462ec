use Rattle.std.proofs.Common.{◌+◌, ◌≤◌, length, map}
use Rattle.gvn_model.specs.Reigns.{reign_value}
use Rattle.gvn_model.specs.Entries.{history_value}
use Rattle.resync_core.proofs.Walking.{IsWalked}
use Rattle.resync_core.proofs.resync.common.Given as goal

abbrev pub invariant-loop-first : goal.invariant-loop-first
invariant-loop-first l = record {
  walked : IsWalked (history_value l.a) (history_value l.b) l.most (map reign_value l.first) (map reign_value l.second);
  first_fits : length l.first ≤ length l.initial.first;
  second_fits : length l.second ≤ length l.initial.second;
}

-- the reigns that are left
abbrev pub decreases-loop-first : goal.decreases-loop-first
decreases-loop-first l = length l.first + length l.second
