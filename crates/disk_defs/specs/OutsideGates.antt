-- What lies outside the format of gated files, and where.
use Rattle.std.specs.Prelude.{◌≡◌, ◌<◌, ℕ, List, length, take}
use Rattle.std.specs.List.{AllByRecursion}
use Rattle.disk_defs.specs.Gates.{Body, NoGate, gate_at, spelled, IsBody}

-- From the start to this place stand open records with these bodies.
pub record LeadsTo (file : List ℕ) (at : ℕ) (bodies : List Body) : Type 0 where
  pub front : take at file ≡ spelled 1 bodies
  pub all : AllByRecursion IsBody bodies
  pub inside : at < length file

-- Open records stand from the start to this place, and no gate of the format stands there.
pub record IsOutside (file : List ℕ) (offset : ℕ) : Type 0 where
  pub bodies : List Body
  pub leads : LeadsTo file offset bodies
  pub here : gate_at file offset ≡ NoGate
