use Rattle.command_defs.proofs.LineLaws.{command_spelled, command_read, section_spelled, section_read}
use Rattle.command_defs.proofs.laws.commands_are_read_as_spelled.Goals as goal

pub returns-clause-found : goal.returns-clause-found
returns-clause-found c = command_spelled

pub returns-clause-only : goal.returns-clause-only
returns-clause-only c = command_read

pub returns-clause-begun : goal.returns-clause-begun
returns-clause-begun c = section_spelled

pub returns-clause-begins : goal.returns-clause-begins
returns-clause-begins c = section_read
