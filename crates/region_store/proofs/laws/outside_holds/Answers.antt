use Rattle.region_store.proofs.Breaks.{nothing_outside}
use Rattle.region_store.proofs.States as states
use Rattle.region_store.proofs.laws.outside_holds.Goals as goal

pub returns : goal.returns
returns c = record { none = nothing_outside; one = states.one; state = states.state }
