use Rattle.command_defs.proofs.LineEnds.{trimmed_found, trimmed_only}
use Rattle.command_defs.proofs.laws.ends_are_ignored.Goals as goal

pub returns-clause-found : goal.returns-clause-found
returns-clause-found c = trimmed_found

pub returns-clause-only : goal.returns-clause-only
returns-clause-only c = λ text line e. trimmed_only e
