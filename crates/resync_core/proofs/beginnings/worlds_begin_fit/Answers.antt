use Rattle.resync_core.proofs.Resting as resting
use Rattle.resync_core.proofs.beginnings.worlds_begin_fit.Goals as goal

pub returns : goal.returns
returns c = record { empty = resting.empty; at_rest = resting.at-rest; made = resting.made }
