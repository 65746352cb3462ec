use Rattle.world_laws.proofs.FreshFit as worlds
use Rattle.world_laws.proofs.beginnings.new_worlds_are_fit.Goals as goal

pub returns : goal.returns
returns c = record { empty = worlds.fit-empty; again = worlds.fit-again; read_again = worlds.fit-read_again }
