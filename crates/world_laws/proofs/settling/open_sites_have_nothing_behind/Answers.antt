use Rattle.world_laws.proofs.Settles as settling
use Rattle.world_laws.proofs.settling.open_sites_have_nothing_behind.Goals as goal

pub returns : goal.returns
returns c = record { step = settling.bare-step; runs = settling.bare-runs }
