use Rattle.world_laws.proofs.Settles as settling
use Rattle.world_laws.proofs.settling.open_sites_are_settled.Goals as goal

pub returns : goal.returns
returns c = record { step = settling.settled-step; runs = settling.settled-runs }
