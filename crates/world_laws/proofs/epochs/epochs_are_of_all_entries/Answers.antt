use Rattle.world_laws.proofs.LastEpochs as epochs
use Rattle.world_laws.proofs.epochs.epochs_are_of_all_entries.Goals as goal

pub returns : goal.returns
returns c = record { taken = epochs.has-marked; held = epochs.has-held }
