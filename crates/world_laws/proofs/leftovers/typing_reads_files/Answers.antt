use Rattle.world_laws.proofs.StandsForOne as files
use Rattle.world_laws.proofs.leftovers.typing_reads_files.Goals as goal

pub returns : goal.returns
returns c = record { broken = files.typing_reads; count = files.count_files; lost = files.typing_reads_lost }
