-- Regions that become others by updates.
use Rattle.std.specs.Prelude.{◌≡◌, ℕ, ◌<◌, ◌≤◌, nat_lt, true, List, [], length, take, drop, fold, slice_get, slice_index, Option, Some, IfSome, if◌then◌else◌}
use Rattle.disk_defs.specs.Disk.{Files}
use Rattle.global_defs.specs.Entry.{Reign, Sequence, Update, apply}
use Rattle.journal_defs.specs.Directory.{Pattern}
use Rattle.block_laws.specs.Nodes.{updates_in, updates_of}
use Rattle.region_store.specs.Region.{Standing, IsChanged}
use Rattle.entry_index.specs.declared.index.EntryIndex.{EntryIndex}
use Rattle.entry_index.specs.Indexes.{Indexes}
use Rattle.region_opening.specs.Opening.{are_home}
use Rattle.entry_index.specs.Parts.{InFiles}

-- The first k regions became others, each so, and those behind stay.
pub record AreBecome (So : ℕ → Standing → Standing → Type 0) (k : ℕ) (old new : List Standing) : Type 0 where
  pub count : length new ≡ length old
  pub each : (r : ℕ) (s m : Standing) → r < k → slice_get old r ≡ Some s → slice_get new r ≡ Some m → So r s m
  pub rest : (r : ℕ) → k ≤ r → slice_get new r ≡ slice_get old r

-- the updates of an entry, where a region is opened from before it
abbrev pub updates_behind : ℕ → ℕ → List Update → List Update
updates_behind from number us = if nat_lt from number then us else []

-- Its own updates of an entry of this number were made in a region, where it is opened from before it.
pub record IsGivenEntry (ps : List Pattern) (from : List ℕ) (number : ℕ) (us : List Update) (r : ℕ) (s m : Standing) : Type 0 where
  pub changed : IsChanged s m
  pub made : m.globals ≡ fold apply s.globals (updates_in ps r (updates_behind (slice_index from r) number us))

-- Its own updates of the entries behind the number from which it is opened, up to the target t, were made in a region, where the index is of a sequence with so many.
pub record IsGivenUpTo (o : Option Files) (reigns : List Reign) (index : EntryIndex) (ps : List Pattern) (from : List ℕ) (t r : ℕ) (s m : Standing) : Type 0 where
  pub changed : IsChanged s m
  pub home : are_home ps r s.globals ≡ true → are_home ps r m.globals ≡ true
  pub same : t ≡ 0 → m.globals ≡ s.globals
  pub made : IfSome o (λ files. (seq : Sequence) → Indexes (InFiles files) reigns index seq → t ≤ length seq
      → m.globals ≡ fold apply s.globals (updates_in ps r (updates_of (drop (slice_index from r) (take t seq)))))
