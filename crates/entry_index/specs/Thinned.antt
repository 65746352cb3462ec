-- Which records of a region are kept in mind, once so many entries are told.
use Rattle.std.specs.Prelude.{◌≡◌, ◌⊎◌, ℕ, ◌≤◌, ◌&&◌, nat_le, Bool, true, false, List, [], ◌∷◌, Option, Some, None}
use Rattle.std.specs.List.{list_any}
use Rattle.disk_defs.specs.Disk.{Files}
use Rattle.journal_defs.specs.Instance.{InstanceRecord}
use Rattle.journal_defs.specs.Surviving.{survives}
use Rattle.journal_defs.specs.Journal.{JournalRecord, Pini, Epoch, Pblk, Tcom}
use Rattle.journal_defs.specs.Sequence.{Placed}
use Rattle.entry_index.specs.declared.placed.PlacedSign.{PlacedSign}
use Rattle.entry_index.specs.Indexes.{AreSigns}

-- the generation of a part that stands in it
abbrev pub part_generation : ℕ → JournalRecord → Option ℕ
part_generation g (Tcom p) = Some g
part_generation g (Pini s) = None
part_generation g (Epoch m) = None
part_generation g (Pblk b) = None

-- the record is a part of one of the first n entries, or one that a CUT dropped
abbrev pub IsSettled : List InstanceRecord → (n generation : ℕ) → JournalRecord → Type 0
IsSettled instance n g (Tcom p) = (p.number ≤ n) ⊎ (survives instance g p.number ≡ false)
IsSettled instance n g (Pini s) = ⊥
IsSettled instance n g (Epoch m) = ⊥
IsSettled instance n g (Pblk b) = ⊥

-- the record may go where an epoch behind it is a floor: it's no PINI, which says whether its generation keeps images, and no surviving part past the first n entries
abbrev pub MayGo : List InstanceRecord → (n generation : ℕ) → JournalRecord → Type 0
MayGo instance n g (Tcom p) = (p.number ≤ n) ⊎ (survives instance g p.number ≡ false)
MayGo instance n g (Pini s) = ⊥
MayGo instance n g (Epoch m) = Unit {0}
MayGo instance n g (Pblk b) = Unit {0}

-- the record is a floor: a surviving epoch of one of the first n entries that isn't past the lowest target, so that no target goes back past it
abbrev pub is_floor_in : List InstanceRecord → (lowest n : ℕ) → (generation : ℕ) → JournalRecord → Bool
is_floor_in instance lowest n g (Epoch m) = survives instance g m.number && nat_le m.number lowest && nat_le m.number n
is_floor_in instance lowest n g (Pini s) = false
is_floor_in instance lowest n g (Pblk b) = false
is_floor_in instance lowest n g (Tcom p) = false

-- one of these records is
abbrev pub has_floor : List InstanceRecord → (lowest n : ℕ) → List Placed → Bool
has_floor instance lowest n ps = list_any (λ p. is_floor_in instance lowest n p.generation p.what) ps

-- All of these records are kept but some parts of the first n entries and some that a CUT dropped, each right behind another part of its generation, and some records before a floor.
-- `behind` is the generation of the part right before them, where one stands there.
abbrev pub IsThinned : List InstanceRecord → (lowest n : ℕ) (behind : Option ℕ) → List Placed → List Placed → Type 0
IsThinned instance lowest n behind [] kept = kept ≡ []
IsThinned instance lowest n behind (p ∷ ps) kept =
    ((rest : List Placed) × (kept ≡ p ∷ rest) × IsThinned instance lowest n (part_generation p.generation p.what) ps rest)
    ⊎ ((behind ≡ Some p.generation) × IsSettled instance n p.generation p.what × IsThinned instance lowest n behind ps kept)
    ⊎ ((has_floor instance lowest n ps ≡ true) × MayGo instance n p.generation p.what × IsThinned instance lowest n (part_generation p.generation p.what) ps kept)

-- These are the signs of the records that are kept of all regions, once n entries are told, for targets of at least `lowest` or n entries.
pub record AreKept (files : Files) (instance : List InstanceRecord) (lowest n : ℕ) (signs : List (List PlacedSign)) (journal : ℕ → List Placed) : Type 0 where
  pub kept : ℕ → List Placed
  pub are : AreSigns files signs kept
  pub thinned : (r : ℕ) → IsThinned instance lowest n None (journal r) (kept r)
