-- The jobs of all updaters, where the last ones that have none may be left out.
use Rattle.std.specs.Prelude.{◌-◌, List, [], ◌++◌, length, replicate}
use Rattle.global_defs.specs.Jobs.{Job}
use Rattle.command_defs.specs.Updaters.{UPDATERS}

abbrev pub at_all : List (List Job) → List (List Job)
at_all jobs = jobs ++ replicate (UPDATERS - length jobs) []
