use Rattle.run_laws.proofs.Written as written
use Rattle.run_laws.proofs.leftovers.starts_write_what_lies_behind.Goals as goal

pub returns : goal.returns
returns c = record { crashed = written.crashed-written; faulted = written.faulted-written }
