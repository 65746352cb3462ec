-- What a site's newest journals hold, by region.
use Rattle.std.specs.Prelude.{◌≡◌, ◌≢◌, ◌≤◌, ◌<◌, ◌++◌, ℕ, suc, List, [], length, take, Option, None}
use Rattle.std.specs.List.{AllByRecursion}
use Rattle.disk_defs.specs.Disk.{Files}
use Rattle.journal_defs.specs.Numbers.{journal_file}
use Rattle.journal_defs.specs.Journal.{JournalRecord, Part, IsJournalBody}
use Rattle.journal_defs.specs.Instance.{generation, regions}
use Rattle.journal_defs.specs.Sequence.{Records}
use Rattle.journal_defs.specs.Stands.{Holds}

-- The journals of generation g of the first n regions.
pub record IsNewestFile (g n file : ℕ) : Type 0 where
  pub region : ℕ
  pub inside : region < n
  pub is : file ≡ journal_file g region

-- Each region's journal of generation g has its hardened records, and then the first few of those that wait, in each region as many as it likes.
pub record HasFirst (g n : ℕ) (hard waiting : ℕ → List JournalRecord) (kept : ℕ → ℕ) (files : Files) : Type 0 where
  pub each : (r : ℕ) → r < n → Holds IsJournalBody (files (journal_file g r)) (hard r ++ take (kept r) (waiting r))

-- A site whose newest generation g + 1 has begun in each region, and the records that its newest journals have.
pub record AreNewest (files : Files) (s : Records) (g : ℕ) (newer : ℕ → List JournalRecord) : Type 0 where
  pub generation : generation s.instance ≡ suc g
  pub held : (r : ℕ) → r < length (regions s.instance) → Holds IsJournalBody (files (journal_file (suc g) r)) (newer r)
  pub begun : (r : ℕ) → r < length (regions s.instance) → newer r ≢ []

-- entries have parts in the first n regions alone
abbrev pub AreInside : ℕ → List (ℕ → Option Part) → Type 0
AreInside n ps = AllByRecursion (λ part. (r : ℕ) → n ≤ r → part r ≡ None) ps
