use Rattle.resync_core.proofs.Crashing as outcomes
use Rattle.resync_core.proofs.outcomes.outcomes_hold.Goals as goal

pub returns : goal.returns
returns c = record { agree = outcomes.agree; cycles = outcomes.cycles; rise = outcomes.rise; history = outcomes.history; few = outcomes.few; follower = outcomes.follower }
