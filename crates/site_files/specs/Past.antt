-- Parts past the length of a site, by the signs of a region's records.
use Rattle.std.specs.Prelude.{ℕ, ◌≤◌, nat_lt, filter, Bool, false, List}
use Rattle.std.specs.List.{AllByRecursion}
use Rattle.global_defs.specs.declared.limits.TheConstants.{MOST_GENERATIONS}
use Rattle.disk_defs.specs.Disk.{Files}
use Rattle.journal_defs.specs.Journal as journal
use Rattle.journal_defs.specs.Journal.{JournalRecord}
use Rattle.journal_defs.specs.Sequence.{Placed}
use Rattle.entry_index.specs.declared.placed.PlacedSign.{PlacedSign}
use Rattle.entry_index.specs.declared.sign.Sign.{Sign}
use Rattle.entry_index.specs.declared.sign.Sign.TheVariants.{Pini, Epoch, Pblk, Tcom}
use Rattle.entry_index.specs.Places.{AreSignsOf}

-- the record is a part whose number is past this one
abbrev pub is_past : ℕ → JournalRecord → Bool
is_past n (journal.Pini s) = false
is_past n (journal.Epoch m) = false
is_past n (journal.Pblk b) = false
is_past n (journal.Tcom p) = nat_lt n p.number

-- as its sign tells it
abbrev pub is_past_by_sign : ℕ → Sign → Bool
is_past_by_sign n (Pini region before generation previous) = false
is_past_by_sign n (Epoch closing number blocks) = false
is_past_by_sign n (Pblk block) = false
is_past_by_sign n (Tcom number mask origin count span) = nat_lt n number

-- those of a region, in journal order
abbrev pub all_past : ℕ → List Placed → List Placed
all_past n journal = filter (λ p. is_past n p.what) journal

-- These are the signs of a region's records, whose generations are from 1 to 65,535.
pub record AreRegionSigns (files : Files) (region : ℕ) (signs : List PlacedSign) (journal : List Placed) : Type 0 where
  pub are : AreSignsOf files region signs journal
  pub generations : AllByRecursion (λ p. (1 ≤ p.generation) × (p.generation ≤ MOST_GENERATIONS)) journal
