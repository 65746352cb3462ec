use Rattle.std.proofs.Common.{◌≡◌, ◌≤◌, ℕ, Bool, false, List, length, replicate, Some}
use Rattle.std.specs.Prelude.{slice_get}
use Rattle.region_store.specs.Joined.{region_at}
use Rattle.region_epochs.specs.Taken.{HasSameNodes}
use Rattle.region_epochs.proofs.Lifts.{AreLowered}
use Rattle.region_epochs.proofs.Epochs.{IsBegun}
use Rattle.region_epochs.proofs.closing.begin_regions.Given as goal

abbrev pub invariant-loop-marks : goal.invariant-loop-marks
invariant-loop-marks l = record {
  few : length l.images.items ≤ length l.fn.regions.regions;
  none : (r : ℕ) (marks : List Bool) → slice_get l.images.items r ≡ Some marks → marks ≡ replicate (length (region_at l.fn.regions r).pool.leaves) false;
  lowered : AreLowered IsBegun (length l.images.items) l.fn.regions l.regions;
  same : HasSameNodes l.fn.regions l.regions;
}

abbrev pub decreases-loop-marks : goal.decreases-loop-marks
decreases-loop-marks l = length l.images.items
