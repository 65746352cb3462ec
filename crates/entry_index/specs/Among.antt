-- Indexes of the parts that stand among the records of journals.
use Rattle.std.specs.Prelude.{◌≡◌, ℕ, suc, ◌+◌, ◌*◌, ◌≤◌, ◌<◌, List, [], length, get_or}
use Rattle.global_defs.specs.Entry.{Reign, Sequence}
use Rattle.journal_defs.specs.Instance.{InstanceRecord}
use Rattle.journal_defs.specs.Sequence.{Placed}
use Rattle.entry_index.specs.Order.{AreInOrder}
use Rattle.entry_index.specs.declared.placed.PlacedSign.{PlacedSign}
use Rattle.entry_index.specs.declared.index.EntryIndex.{EntryIndex}
use Rattle.entry_index.specs.Parts.{InJournals}
use Rattle.entry_index.specs.Signs.{last_sign, signs_of}
use Rattle.entry_index.specs.Completing.{place_told}
use Rattle.entry_index.specs.Indexes.{place_of, Indexes}

-- the index has the places that the entries of the sequence have among these records
abbrev pub IsIndexOf : (ℕ → List Placed) → List Reign → EntryIndex → Sequence → Type 0
IsIndexOf journal reigns index seq = Indexes (InJournals journal) reigns index seq

-- each region's signs have the places of its records
abbrev pub AreAllInOrder : List (List PlacedSign) → (ℕ → List Placed) → Type 0
AreAllInOrder signs journal = (r : ℕ) → r < length signs → AreInOrder (get_or signs r []) (journal r)

-- The places of each entry are those of its last surviving signs.
pub record ArePlaced (instance : List InstanceRecord) (signs : List (List PlacedSign)) (index : EntryIndex) : Type 0 where
  pub each : (n r : ℕ) → r < index.regions → index.regions * (n + 1) ≤ length index.places.items → place_of index (suc n) r ≡ place_told (last_sign instance (n + 1) (signs_of signs r))
