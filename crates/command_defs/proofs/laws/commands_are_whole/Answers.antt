use Rattle.command_defs.proofs.Steady.{begun_sound, stays_sound, command_complete, run_complete}
use Rattle.command_defs.proofs.laws.commands_are_whole.Goals as goal

pub returns-clause-begun : goal.returns-clause-begun
returns-clause-begun c = begun_sound

pub returns-clause-stays : goal.returns-clause-stays
returns-clause-stays c = stays_sound

pub returns-clause-commands : goal.returns-clause-commands
returns-clause-commands c = command_complete

pub returns-clause-sections : goal.returns-clause-sections
returns-clause-sections c = run_complete
