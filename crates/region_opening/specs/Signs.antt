-- Signs that say what records say, and what is chosen by them.
use Rattle.std.specs.Prelude.{◌≡◌, ℕ, ◌≤◌, ◌==◌, ◌&&◌, Bool, false, not, nat_le, List, Option, Some, None, if◌then◌else◌}
use Rattle.std.specs.List.{AllByRecursion, AllZip, list_any}
use Rattle.std.specs.Ordering.{nat_cmp}
use Rattle.std.specs.BTreeSet.{BTreeSet, contains}
use Rattle.global_defs.specs.declared.limits.TheConstants.{MOST_GENERATIONS}
use Rattle.disk_defs.specs.Disk.{Files}
use Rattle.journal_defs.specs.Instance.{InstanceRecord}
use Rattle.journal_defs.specs.Surviving.{survives}
use Rattle.journal_defs.specs.Sequence.{Placed}
use Rattle.journal_defs.specs.Epochs.{Chosen}
use Rattle.entry_index.specs.declared.placed.PlacedSign.{PlacedSign}
use Rattle.entry_index.specs.declared.sign.Sign.{Sign}
use Rattle.entry_index.specs.declared.sign.Sign.TheVariants.{Pini, Epoch, Pblk, Tcom}
use Rattle.entry_index.specs.RecordSigns.{sign_of}
use Rattle.entry_index.specs.Places.{AreSignsOf}
use Rattle.entry_index.specs.Signs.{signs_of}
use Rattle.entry_index.specs.Thinned.{IsThinned}

-- the sign is that of this record, wherever it stands
pub record Says (s : PlacedSign) (p : Placed) : Type 0 where
  pub generation : s.generation ≡ p.generation
  pub what : s.sign ≡ sign_of p.what

-- the signs are those of these records, one after the other
abbrev pub Say : List PlacedSign → List Placed → Type 0
Say signs journal = AllZip Says signs journal

-- and those of all regions
abbrev pub AllTell : List (List PlacedSign) → (ℕ → List Placed) → Type 0
AllTell signs journal = (r : ℕ) → Say (signs_of signs r) (journal r)

-- The signs are those of the records that are kept of all regions for targets from t on, once some number of entries is told.
pub record AllSay (instance : List InstanceRecord) (t : ℕ) (signs : List (List PlacedSign)) (journal : ℕ → List Placed) : Type 0 where
  pub told : ℕ
  pub kept : ℕ → List Placed
  pub say : AllTell signs kept
  pub thinned : (r : ℕ) → IsThinned instance t told None (journal r) (kept r)

-- the generation is one that there may be
abbrev pub IsDrawn : Placed → Type 0
IsDrawn p = (1 ≤ p.generation) × (p.generation ≤ MOST_GENERATIONS)

-- These are the signs of a region's records, by their places in files.
pub record AreTold (files : Files) (r : ℕ) (signs : List PlacedSign) (journal : List Placed) : Type 0 where
  pub signs_of : AreSignsOf files r signs journal
  pub drawn : AllByRecursion IsDrawn journal

-- the epoch that a record of this sign is, where it survives and its number is at most the target t
abbrev pub epoch_by : List InstanceRecord → ℕ → ℕ → Sign → List Placed → Option Chosen
epoch_by instance t g (Epoch closing number blocks) after = if survives instance g number && nat_le number t then Some (record { number = number; blocks = blocks; after = after }) else None
epoch_by instance t g (Pini region before generation previous) after = None
epoch_by instance t g (Pblk block) after = None
epoch_by instance t g (Tcom number mask origin count span) after = None

-- a generation begins that keeps no images
abbrev pub starts_by : Sign → Bool
starts_by (Pini region before generation previous) = not before
starts_by (Epoch closing number blocks) = false
starts_by (Pblk block) = false
starts_by (Tcom number mask origin count span) = false

-- the generation keeps no images
abbrev pub is_without_by : List PlacedSign → ℕ → Bool
is_without_by signs g = list_any (λ s. s.generation == g && starts_by s.sign) signs

-- the set has the generations that keep no images
abbrev pub AreWithout : List PlacedSign → BTreeSet ℕ → Type 0
AreWithout signs made = (g : ℕ) → contains nat_cmp made g ≡ is_without_by signs g
