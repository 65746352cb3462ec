-- A section: updaters' jobs between RUN and END, a statement or a word of a transaction a line.
use Rattle.std.specs.Prelude.{◌≡◌, ◌<◌, ℕ, ◌+◌, ◌-◌, ◌&&◌, ◌||◌, ◌==◌, Bool, true, false, List, [], ◌∷◌, ◌++◌, length, replicate, nat_le, get_or, set, count_by, codes, if◌then◌else◌}
use Rattle.std.specs.List.{list_all}
use Rattle.std.specs.Str.{bytes_eq}
use Rattle.global_defs.specs.declared.limits.TheConstants.{MOST_STATEMENTS, MOST_UPDATES}
use Rattle.global_defs.specs.Jobs.{Statement, Job}
use Rattle.command_defs.specs.Commands.{Name}
use Rattle.command_defs.specs.Parts.{is_name}
use Rattle.command_defs.specs.Updaters.{UPDATERS, is_update, is_updater, is_of_size}

-- A section that isn't ended: updater u's part of it is at place u - 1. The last job of an updater whose transaction is open isn't whole.
pub record Section : Type 0 where
  pub name : Name
  pub jobs : List (List Job)
  -- the updaters in the order of their jobs' first lines
  pub order : List ℕ
  -- who has an open transaction
  pub opened : List Bool

abbrev pub begun : Name → Section
begun name = record { name = name; jobs = replicate UPDATERS []; order = []; opened = replicate UPDATERS false }

abbrev pub is_open : Section → ℕ → Bool
is_open s u = get_or s.opened (u - 1) false

abbrev pub jobs_of : Section → ℕ → List Job
jobs_of s u = get_or s.jobs (u - 1) []

abbrev pub last_job : List Job → Job
last_job jobs = get_or jobs (length jobs - 1) []

-- an updater has begun one job more
abbrev pub with_job : Section → ℕ → Job → Section
with_job s u job = record s { jobs = set s.jobs (u - 1) (jobs_of s u ++ job ∷ []); order = s.order ++ u ∷ [] }

-- TSTART begins a job without statements
abbrev pub transaction_begun : Section → ℕ → Section
transaction_begun s u = record s { jobs = set s.jobs (u - 1) (jobs_of s u ++ [] ∷ []); order = s.order ++ u ∷ []; opened = set s.opened (u - 1) true }

-- TCOMMIT ends it
abbrev pub transaction_ended : Section → ℕ → Section
transaction_ended s u = record s { opened = set s.opened (u - 1) false }

abbrev pub longer : List Job → Statement → List Job
longer jobs statement = set jobs (length jobs - 1) (last_job jobs ++ statement ∷ [])

-- a statement goes to the updater's open transaction, or is a job
abbrev pub with_statement : Section → ℕ → Statement → Section
with_statement s u statement = if is_open s u
    then record s { jobs = set s.jobs (u - 1) (longer (jobs_of s u) statement) }
    else with_job s u (statement ∷ [])

-- the words of updates
abbrev pub is_update_word : List ℕ → Bool
is_update_word word = bytes_eq word (codes "SET") || bytes_eq word (codes "KILL") || bytes_eq word (codes "ZKILL") || bytes_eq word (codes "INCR")

-- a job of so many statements, with so many updates, takes no statement of that word
abbrev pub is_full_job : Job → List ℕ → Bool
is_full_job job word = nat_le MOST_STATEMENTS (length job) || (is_update_word word && nat_le MOST_UPDATES (count_by is_update job))

-- the updater's open transaction takes no statement of that word
abbrev pub is_full : Section → ℕ → List ℕ → Bool
is_full s u word = is_open s u && is_full_job (last_job (jobs_of s u)) word

-- What holds of each section that lines come to.

-- how many jobs of an updater an order has
abbrev pub count_in : List ℕ → ℕ → ℕ
count_in order u = count_by (λ v. v == u) order

pub record IsSound (s : Section) : Type 0 where
  pub named : is_name s.name ≡ true
  pub updaters : length s.jobs ≡ UPDATERS
  pub openings : length s.opened ≡ UPDATERS
  pub ordered : list_all is_updater s.order ≡ true
  -- an updater stands as often in the order as it has jobs
  pub counted : (i : ℕ) → i < UPDATERS → count_in s.order (i + 1) ≡ length (get_or s.jobs i [])
  pub sized : (i : ℕ) → i < UPDATERS → list_all is_of_size (get_or s.jobs i []) ≡ true
  -- who has an open transaction has a job
  pub begins : (i : ℕ) → i < UPDATERS → get_or s.opened i false ≡ true → 0 < length (get_or s.jobs i [])
