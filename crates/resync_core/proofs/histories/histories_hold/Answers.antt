use Rattle.resync_core.proofs.SharedFronts as histories
use Rattle.resync_core.proofs.histories.histories_hold.Goals as goal

pub returns : goal.returns
returns c = record {
  common = histories.common;
  one = histories.one;
  told = histories.as-told;
  matched = histories.matched;
  rolled = histories.rolled;
}
