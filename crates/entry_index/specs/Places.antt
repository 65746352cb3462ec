-- Where records stand.
use Rattle.std.specs.Prelude.{◌≡◌, ◌≤◌, ℕ, ◌+◌, List, length, take, drop}
use Rattle.std.specs.Int.{from_be_bytes, to_be_bytes, w32}
use Rattle.std.specs.List.{AllZip}
use Rattle.global_defs.specs.declared.limits.TheConstants.{LONGEST_BODY}
use Rattle.disk_defs.specs.Disk.{Files}
use Rattle.disk_defs.specs.Gates.{Body, IsBody}
use Rattle.journal_defs.specs.Numbers.{journal_file}
use Rattle.journal_defs.specs.Journal.{JournalRecord, IsJournalBody}
use Rattle.journal_defs.specs.Sequence.{Placed}
use Rattle.entry_index.specs.declared.placed.PlacedSign.{PlacedSign}
use Rattle.entry_index.specs.RecordSigns.{sign_of}

-- Behind the gate at this place of a file stands the body of this record behind its length, whether that gate is open or closed.
pub record StandsAt (file : List ℕ) (at : ℕ) (r : JournalRecord) : Type 0 where
  pub body : Body
  pub spelled : IsJournalBody body r
  pub size : IsBody body
  pub length_is : from_be_bytes w32 (take 4 (drop (at + 1) file)) ≡ length body
  pub there : take (length body) (drop (at + 5) file) ≡ body

-- Behind the gate at this place stands this length, which bodies may have, and so many bytes behind it.
pub record HasLength (file : List ℕ) (at n : ℕ) : Type 0 where
  pub head : take 4 (drop (at + 1) file) ≡ to_be_bytes w32 n
  pub not_empty : 1 ≤ n
  pub not_long : n ≤ LONGEST_BODY
  pub inside : at + 5 + n ≤ length file

-- the sign of this record of a region, and its place
pub record IsSignOf (files : Files) (region : ℕ) (s : PlacedSign) (p : Placed) : Type 0 where
  pub generation : s.generation ≡ p.generation
  pub says : s.sign ≡ sign_of p.what
  pub stands : StandsAt (files (journal_file p.generation region)) s.offset p.what

-- the signs of these records of a region, one after the other
abbrev pub AreSignsOf : Files → ℕ → List PlacedSign → List Placed → Type 0
AreSignsOf files region signs journal = AllZip (IsSignOf files region) signs journal
