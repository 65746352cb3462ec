use Rattle.std.proofs.Common.{subst}
use Rattle.repl_script.specs.declared.command.Command.{Command}
use Rattle.repl_script.specs.Commands.{command_value}
use Rattle.command_defs.specs.Commands.{IsFormed}
use Rattle.site_runner.proofs.execute.execute.Goals as goal

pub create-requires-clause-formed : goal.create-requires-clause-formed
create-requires-clause-formed g c = subst (λ (x : Command). IsFormed (command_value x)) c.in-Create.is c.requires.formed
