-- Indexes of entries.
use Rattle.std.specs.List.{AllByRecursion}
use Rattle.std.specs.Prelude.{◌≡◌, ℕ, suc, ◌+◌, ◌-◌, ◌*◌, ◌≤◌, ◌<◌, Bool, true, false, List, [], ◌++◌, length, get_or, slice_get, Option, Some, None, IsSome}
use Rattle.global_defs.specs.declared.limits.TheConstants.{MOST_GENERATIONS}
use Rattle.disk_defs.specs.Disk.{Files}
use Rattle.global_defs.specs.Entry.{Reign, Entry, Sequence}
use Rattle.global_defs.specs.Prefix.{stamp_at}
use Rattle.journal_defs.specs.Journal.{JournalRecord, Part}
use Rattle.journal_defs.specs.Sequence.{Placed, entry_with}
use Rattle.entry_index.specs.Places.{AreSignsOf}
use Rattle.entry_index.specs.declared.placed.PlacedSign.{PlacedSign}
use Rattle.entry_index.specs.declared.place.PartPlace.{PartPlace}
use Rattle.entry_index.specs.declared.index.EntryIndex.{EntryIndex}
use Rattle.entry_index.specs.Parts.{NOWHERE, InFiles, IsPartAt, AreParts}

-- the place of entry n, from 1 on, in a region
abbrev pub place_of : EntryIndex → ℕ → ℕ → PartPlace
place_of index n r = get_or index.places.items (index.regions * (n - 1) + r) NOWHERE

-- The places of entry n have the parts of this entry.
pub record IsEntryAt (stands : ℕ → ℕ → ℕ → JournalRecord → Type 0) (reigns : List Reign) (index : EntryIndex) (n : ℕ) (e : Entry) : Type 0 where
  pub part : ℕ → Option Part
  pub places : (r : ℕ) → r < index.regions → IsPartAt stands r n (place_of index n r) (part r)
  pub no_more : (r : ℕ) → index.regions ≤ r → part r ≡ None
  pub entry : entry_with part (stamp_at n reigns) ≡ Some e

-- The index has a row of places for each entry of the sequence, and there stand the parts of that entry.
pub record Indexes (stands : ℕ → ℕ → ℕ → JournalRecord → Type 0) (reigns : List Reign) (index : EntryIndex) (seq : Sequence) : Type 0 where
  pub rows : length index.places.items ≡ index.regions * length seq
  pub each : (n : ℕ) (e : Entry) → slice_get seq n ≡ Some e → IsEntryAt stands reigns index (suc n) e

-- These are the signs of all regions' records, whose generations are from 1 to 65,535.
pub record AreSigns (files : Files) (signs : List (List PlacedSign)) (journal : ℕ → List Placed) : Type 0 where
  pub each : (r : ℕ) → r < length signs → AreSignsOf files r (get_or signs r []) (journal r)
  pub generations : (r : ℕ) → r < length signs → AllByRecursion (λ p. (1 ≤ p.generation) × (p.generation ≤ MOST_GENERATIONS)) (journal r)
  pub no_more : (r : ℕ) → length signs ≤ r → journal r ≡ []

-- Entry n, which has these parts, is complete and its row was added; or it isn't complete and nothing was.
abbrev pub IsNext : Files → List Reign → ℕ → (ℕ → Option Part) → Bool → List PartPlace → List PartPlace → Type 0
IsNext files reigns n part true old new = (row : List PartPlace) × (new ≡ old ++ row) × AreParts (InFiles files) n row part × IsSome (entry_with part (stamp_at n reigns))
IsNext files reigns n part false old new = (new ≡ old) × (entry_with part (stamp_at n reigns) ≡ None)
