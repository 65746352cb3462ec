-- The files that an epoch may change.
use Rattle.std.specs.Prelude.{◌≡◌, ◌<◌, ℕ}
use Rattle.disk_defs.specs.Frames.{Either}
use Rattle.journal_defs.specs.Numbers.{database_file}
use Rattle.region_journals.specs.Fronts.{IsNewestFile}

-- a database file of the first n regions
pub record IsDatabaseFile (n file : ℕ) : Type 0 where
  pub region : ℕ
  pub inside : region < n
  pub is : file ≡ database_file region

-- a journal of generation g or a database file of the first n regions
abbrev pub IsEpochFile : ℕ → ℕ → ℕ → Type 0
IsEpochFile g n = Either (IsNewestFile g n) (IsDatabaseFile n)
