-- The sequence that a site's records stand for (GT.M: journal sequence numbers; a transaction that lacks its records in one of its
-- regions is broken, and the run of complete ones ends before it).
use Rattle.std.specs.Prelude.{◌≡◌, ℕ, zero, suc, ◌^◌, ◌==◌, ◌&&◌, ◌||◌, not, Bool, false, bit_and, List, [], ◌∷◌, length, Option, Some, None, if◌then◌else◌}
use Rattle.std.specs.List.{list_all, flat_map, find}
use Rattle.std.specs.Option.{option_or, option_map, option_and_then}
use Rattle.global_defs.specs.Entry.{Update, Stamp, Entry, Sequence}
use Rattle.global_defs.specs.Prefix.{stamp_at}
use Rattle.global_defs.specs.Serial.{entry_of}
use Rattle.journal_defs.specs.Journal.{JournalRecord, Pini, Epoch, Pblk, Tcom, Item, Part}
use Rattle.journal_defs.specs.Instance.{InstanceRecord}
use Rattle.journal_defs.specs.Surviving.{survives, reigns}

-- an open record of a region's journal, and the generation in which it stands
pub record Placed : Type 0 where
  pub generation : ℕ
  pub what : JournalRecord

-- All open records of a site: those of its instance file, and those of each region in journal order.
pub record Records : Type 0 where
  pub instance : List InstanceRecord
  pub journal : ℕ → List Placed

-- the part of entry n that stands here and survives
abbrev pub part_in : List InstanceRecord → ℕ → ℕ → JournalRecord → Option Part
part_in instance n g (Tcom p) = if p.number == n && survives instance g n then Some p else None
part_in instance n g (Pini s) = None
part_in instance n g (Epoch m) = None
part_in instance n g (Pblk b) = None

-- the last such part of a region
abbrev pub part_of : List InstanceRecord → ℕ → List Placed → Option Part
part_of instance n [] = None
part_of instance n (p ∷ ps) = option_or (part_of instance n ps) (part_in instance n p.generation p.what)

-- the parts of entry n by region
abbrev pub parts : Records → ℕ → ℕ → Option Part
parts s n r = part_of s.instance n (s.journal r)

abbrev pub REGIONS : List ℕ
REGIONS = 0 ∷ 1 ∷ 2 ∷ 3 ∷ 4 ∷ 5 ∷ 6 ∷ 7 ∷ []

-- bit r stands for region r
abbrev pub in_mask : ℕ → ℕ → Bool
in_mask mask r = not (bit_and mask (2 ^ r) == 0)

-- one mask, count and origin
abbrev pub is_like : Part → Option Part → Bool
is_like head None = false
is_like head (Some p) = p.mask == head.mask && p.count == head.count && p.origin.updater == head.origin.updater && p.origin.serial == head.origin.serial

abbrev pub items_of : Option Part → List Item
items_of None = []
items_of (Some p) = p.items

-- the update at a position
abbrev pub update_at : List Item → ℕ → Option Update
update_at items i = option_map (λ x. x.update) (find (λ x. x.position == i) items)

-- so many updates from a position on, where each has one
abbrev pub updates_from : List Item → ℕ → ℕ → Option (List Update)
updates_from items i zero = Some []
updates_from items i (suc k) = option_and_then (λ u. option_map (λ us. u ∷ us) (updates_from items (suc i) k)) (update_at items i)

-- the updates of so many items, where their positions fit: they have each one once
abbrev pub updates_of : List Item → ℕ → Option (List Update)
updates_of items count = if length items == count then updates_from items 0 count else None

-- the items of the regions of a mask
abbrev pub items_in : ℕ → (ℕ → Option Part) → List Item
items_in mask part = flat_map (λ r. if in_mask mask r then items_of (part r) else []) REGIONS

-- the updates of an entry by one of its parts: each region of the mask has a part that is like it, and the positions fit
abbrev pub updates_by : (ℕ → Option Part) → Part → Option (List Update)
updates_by part head = if list_all (λ r. not (in_mask head.mask r) || is_like head (part r)) REGIONS then updates_of (items_in head.mask part) head.count else None

-- the entry that is complete by one of its parts
abbrev pub entry_by : (ℕ → Option Part) → Stamp → Part → Option Entry
entry_by part stamp head = option_map (λ us. entry_of stamp head.origin.updater head.origin.serial us) (updates_by part head)

-- the entry that is complete by the part of some of these regions, the first one that has such a part
abbrev pub entry_among : (ℕ → Option Part) → Stamp → List ℕ → Option Entry
entry_among part stamp [] = None
entry_among part stamp (r ∷ rs) = option_or (option_and_then (λ p. entry_by part stamp p) (part r)) (entry_among part stamp rs)

-- the entry of these parts under this stamp, where it is complete and has one
abbrev pub entry_with : (ℕ → Option Part) → Option Stamp → Option Entry
entry_with part stamp = option_and_then (λ s. entry_among part s REGIONS) stamp

-- entry n, where it is complete; its stamp is that of the last surviving reign that has begun by then
abbrev pub entry : Records → ℕ → Option Entry
entry s n = entry_with (parts s n) (stamp_at n (reigns s.instance))

-- these are the entries from number n on
abbrev pub EntriesFrom : (ℕ → Option Entry) → ℕ → Sequence → Type 0
EntriesFrom at n [] = Unit {0}
EntriesFrom at n (e ∷ es) = (at n ≡ Some e) × EntriesFrom at (suc n) es

-- The longest run of complete entries from number 1 on.
pub record IsSequence (s : Records) (seq : Sequence) : Type 0 where
  pub each : EntriesFrom (entry s) 1 seq
  pub ended : entry s (suc (length seq)) ≡ None
