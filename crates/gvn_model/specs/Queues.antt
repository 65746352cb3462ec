-- Jobs of an updater with one statement more.
use Rattle.std.specs.Prelude.{◌-◌, List, [], ◌∷◌, ◌++◌, length, get_or, set}
use Rattle.global_defs.specs.Jobs.{Statement, Job}

-- the last job has this statement behind its own
abbrev pub with_statement : List Job → Statement → List Job
with_statement jobs s = set jobs (length jobs - 1) (get_or jobs (length jobs - 1) [] ++ s ∷ [])
