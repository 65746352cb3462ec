-- The records of a region's journals, and their bodies (GT.M: the PINI, EPOCH, PBLK and TCOM records; the layout is this project's).
use Rattle.std.specs.Prelude.{◌≡◌, ℕ, ◌+◌, ◌^◌, ◌<◌, ◌≤◌, Bool, List, [], ◌∷◌, ◌++◌, length}
use Rattle.std.specs.Int.{to_be_bytes, w16, w32, w64}
use Rattle.std.specs.List.{AllByRecursion, flat_map}
use Rattle.global_defs.specs.declared.limits.TheConstants.{MOST_GENERATIONS, MOST_REGIONS, MOST_UPDATES, NUMBERS_END}
use Rattle.global_defs.specs.Entry.{Origin}
pub use Rattle.global_defs.specs.Entry.{Item}
use Rattle.global_defs.specs.Fields.{flag, spelled_update, IsUpdate, IsNumber, IsOrigin}

-- how a journal begins
pub record Start : Type 0 where
  pub region : ℕ
  -- whether blocks are kept as they were before they change
  pub before : Bool
  pub generation : ℕ
  -- the region's last earlier generation that began, or 0
  pub previous : ℕ

-- that all blocks stood on the database file when so many entries had been made, and how many blocks there were
pub record Mark : Type 0 where
  pub closing : Bool
  pub number : ℕ
  pub blocks : ℕ

-- a block as it was before a change
pub record Before : Type 0 where
  pub block : ℕ
  pub bytes : List ℕ

-- what an entry does in one region
pub record Part : Type 0 where
  pub number : ℕ
  -- the regions that have a part: bit r stands for region r
  pub mask : ℕ
  pub origin : Origin
  -- how many updates the whole transaction has
  pub count : ℕ
  pub items : List Item

pub data JournalRecord : Type 0 where
  Pini : Start → JournalRecord
  Epoch : Mark → JournalRecord
  Pblk : Before → JournalRecord
  Tcom : Part → JournalRecord

abbrev pub spelled_item : Item → List ℕ
spelled_item i = 4 ∷ to_be_bytes w16 i.position ++ spelled_update i.update

-- 01 PINI with version 1, 02 EPOCH, 03 PBLK, 05 TCOM with its items
abbrev pub spelled_record : JournalRecord → List ℕ
spelled_record (Pini s) = 1 ∷ 1 ∷ s.region ∷ flag s.before ∷ to_be_bytes w32 s.generation ++ to_be_bytes w32 s.previous
spelled_record (Epoch m) = 2 ∷ flag m.closing ∷ to_be_bytes w64 m.number ++ to_be_bytes w32 m.blocks
spelled_record (Pblk b) = 3 ∷ to_be_bytes w32 b.block ++ b.bytes
spelled_record (Tcom p) = 5 ∷ to_be_bytes w64 p.number ++ p.mask ∷ p.origin.updater ∷ to_be_bytes w32 p.origin.serial
    ++ to_be_bytes w16 p.count ++ to_be_bytes w16 (length p.items) ++ flat_map spelled_item p.items

-- positions rise, from this one on
abbrev pub Rise : ℕ → List Item → Type 0
Rise low [] = Unit {0}
Rise low (i ∷ items) = (low ≤ i.position) × Rise (i.position + 1) items

-- an item of a transaction of so many updates
pub record IsItem (count : ℕ) (i : Item) : Type 0 where
  pub position : i.position < count
  pub update : IsUpdate i.update

pub record IsPart (p : Part) : Type 0 where
  pub number : IsNumber p.number
  pub mask : p.mask < 2 ^ 8
  pub origin : IsOrigin p.origin
  pub count : (1 ≤ p.count) × (p.count ≤ MOST_UPDATES)
  pub rise : Rise 0 p.items
  pub items : AllByRecursion (IsItem p.count) p.items

-- generations are from 1 to 65,535
pub record IsStart (s : Start) : Type 0 where
  pub region : s.region < MOST_REGIONS
  pub generation : (1 ≤ s.generation) × (s.generation ≤ MOST_GENERATIONS)
  pub previous : s.previous < s.generation

abbrev pub IsInForm : JournalRecord → Type 0
IsInForm (Pini s) = IsStart s
IsInForm (Epoch m) = (m.number < NUMBERS_END) × (m.blocks < 2 ^ 32)
IsInForm (Pblk b) = (b.block < 2 ^ 32) × (length b.bytes ≡ 4096)
IsInForm (Tcom p) = IsPart p

-- these bytes are the body of this record
pub record IsJournalBody (body : List ℕ) (r : JournalRecord) : Type 0 where
  pub form : IsInForm r
  pub spelled : body ≡ spelled_record r

abbrev pub IsNoPini : JournalRecord → Type 0
IsNoPini (Pini s) = ⊥
IsNoPini (Epoch m) = Unit {0}
IsNoPini (Pblk b) = Unit {0}
IsNoPini (Tcom p) = Unit {0}

-- PINI is the first record and no other one is; it names the region, the generation and the one before
abbrev pub BeginsWithPini : (region generation previous : ℕ) → List JournalRecord → Type 0
BeginsWithPini r g previous [] = Unit {0}
BeginsWithPini r g previous (Pini s ∷ rs) = (s.region ≡ r) × (s.generation ≡ g) × (s.previous ≡ previous) × AllByRecursion IsNoPini rs
BeginsWithPini r g previous (Epoch m ∷ rs) = ⊥
BeginsWithPini r g previous (Pblk b ∷ rs) = ⊥
BeginsWithPini r g previous (Tcom p ∷ rs) = ⊥
