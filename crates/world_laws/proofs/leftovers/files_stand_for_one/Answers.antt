use Rattle.world_laws.proofs.StandsForOne as files
use Rattle.world_laws.proofs.leftovers.files_stand_for_one.Goals as goal

pub returns : goal.returns
returns c = files.stand_for_one
