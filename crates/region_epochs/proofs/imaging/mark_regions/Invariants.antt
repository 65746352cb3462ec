use Rattle.std.proofs.Common.{◌≤◌, length}
use Rattle.region_epochs.specs.Taken.{HasSameNodes}
use Rattle.region_epochs.proofs.Lifts.{AreLifted}
use Rattle.region_epochs.proofs.Blocks.{IsMarked}
use Rattle.region_epochs.proofs.imaging.mark_regions.Given as goal

abbrev pub invariant-loop-number : goal.invariant-loop-number
invariant-loop-number l = record {
  few : l.number ≤ length l.fn.regions.regions;
  lifted : AreLifted IsMarked l.number l.fn.regions l.regions;
  same : HasSameNodes l.fn.regions l.regions;
}
