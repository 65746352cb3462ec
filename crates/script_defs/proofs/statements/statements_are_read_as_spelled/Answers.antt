use Rattle.script_defs.proofs.StatementsFound.{statement_found}
use Rattle.script_defs.proofs.StatementsRead.{statement_read}
use Rattle.script_defs.proofs.StatementsWritten.{statement_written}
use Rattle.script_defs.proofs.statements.statements_are_read_as_spelled.Goals as goal

pub returns-clause-found : goal.returns-clause-found
returns-clause-found c = statement_found

pub returns-clause-only : goal.returns-clause-only
returns-clause-only c = statement_read

pub returns-clause-written : goal.returns-clause-written
returns-clause-written c = statement_written
