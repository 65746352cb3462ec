-- The updaters of a section, and the limits of their jobs.
use Rattle.std.specs.Prelude.{ℕ, ◌&&◌, Bool, true, false, length, nat_le, count_by}
use Rattle.global_defs.specs.declared.limits.TheConstants.{MOST_STATEMENTS, MOST_UPDATES, MOST_UPDATERS}
use Rattle.global_defs.specs.Jobs.{Statement, Set, Kill, ZKill, Incr, Job}

abbrev pub UPDATERS : ℕ
UPDATERS = MOST_UPDATERS

abbrev pub is_update : Statement → Bool
is_update (Set key value) = true
is_update (Kill key) = true
is_update (ZKill key) = true
is_update (Incr key n) = true
is_update _ = false

abbrev pub is_updater : ℕ → Bool
is_updater u = nat_le 1 u && nat_le u UPDATERS

abbrev pub is_of_size : Job → Bool
is_of_size job = nat_le (length job) MOST_STATEMENTS && nat_le (count_by is_update job) MOST_UPDATES
