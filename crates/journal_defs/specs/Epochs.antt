-- Epochs, image states, and where a region needs forward recovery (GT.M: before-image journaling; an EPOCH is a moment at which all
-- changed blocks had been flushed, and backward recovery puts the before-images after it back).
use Rattle.std.specs.Prelude.{ℕ, ◌*◌, ◌==◌, ◌&&◌, Bool, false, not, nat_lt, nat_le, List, [], ◌∷◌, take, drop, replicate, Option, Some, None, if◌then◌else◌, IsSome}
use Rattle.std.specs.List.{find, list_any}
use Rattle.std.specs.Option.{option_or, option_map, unwrap_or}
use Rattle.global_defs.specs.declared.limits.TheConstants.{BLOCK}
use Rattle.journal_defs.specs.Journal.{JournalRecord, Pini, Epoch, Pblk, Tcom}
use Rattle.journal_defs.specs.Instance.{InstanceRecord}
use Rattle.journal_defs.specs.Surviving.{survives}
use Rattle.journal_defs.specs.Sequence.{Placed}

-- the blocks of a database file, by their numbers
abbrev pub Blocks : Type 0
Blocks = ℕ → List ℕ

-- an epoch: its number, its `blocks`, and the records after it
pub record Chosen : Type 0 where
  pub number : ℕ
  pub blocks : ℕ
  pub after : List Placed

-- the epoch that stands here, where it survives and its number is at most the target t
abbrev pub epoch_in : List InstanceRecord → ℕ → ℕ → JournalRecord → List Placed → Option Chosen
epoch_in instance t g (Epoch m) after = if survives instance g m.number && nat_le m.number t then Some (record { number = m.number; blocks = m.blocks; after = after }) else None
epoch_in instance t g (Pini s) after = None
epoch_in instance t g (Pblk b) after = None
epoch_in instance t g (Tcom p) after = None

-- the last such epoch in journal order
abbrev pub last_epoch : List InstanceRecord → ℕ → List Placed → Option Chosen
last_epoch instance t [] = None
last_epoch instance t (p ∷ ps) = option_or (last_epoch instance t ps) (epoch_in instance t p.generation p.what ps)

-- the empty database before all records
abbrev pub beginning : List Placed → Chosen
beginning journal = record { number = 0; blocks = 0; after = journal }

-- the epoch that a region has chosen for a target; where there is none, the empty database
abbrev pub chosen : List InstanceRecord → ℕ → List Placed → Chosen
chosen instance t journal = unwrap_or (last_epoch instance t journal) (beginning journal)

-- the image of a block that stands here
abbrev pub image_in : JournalRecord → ℕ → Option (List ℕ)
image_in (Pblk i) b = if i.block == b then Some i.bytes else None
image_in (Pini s) b = None
image_in (Epoch m) b = None
image_in (Tcom p) b = None

-- the oldest image of a block
abbrev pub image_of : List Placed → ℕ → Option (List ℕ)
image_of [] b = None
image_of (p ∷ ps) b = option_or (image_in p.what b) (image_of ps b)

-- block b of a database file
abbrev pub block_of : List ℕ → ℕ → List ℕ
block_of file b = take BLOCK (drop (BLOCK * b) file)

-- The image state below an epoch: the blocks below its `blocks` alone, each as its oldest image after the epoch, or as on the
-- database file where there is none. With no blocks it is one empty leaf, whatever the file holds (block 0 is below every other `blocks`).
abbrev pub image_state : Chosen → Blocks → ℕ → Option (List ℕ)
image_state e database b =
    if nat_lt b e.blocks then Some (unwrap_or (image_of e.after b) (database b))
    else if b == 0 then Some (replicate BLOCK 0) else None

-- a generation begins that keeps no images
abbrev pub starts_without : JournalRecord → Bool
starts_without (Pini s) = not s.before
starts_without (Epoch m) = false
starts_without (Pblk b) = false
starts_without (Tcom p) = false

-- it stands in a generation that keeps no images
abbrev pub is_without : List Placed → Placed → Bool
is_without journal p = list_any (λ q. q.generation == p.generation && starts_without q.what) journal

-- the first such generation with an open record after the epoch
abbrev pub first_without : List Placed → Chosen → Option ℕ
first_without journal e = option_map (λ p. p.generation) (find (is_without journal) e.after)

-- the region needs forward recovery for t
abbrev pub NeedsForward : List InstanceRecord → ℕ → List Placed → Type 0
NeedsForward instance t journal = IsSome (first_without journal (chosen instance t journal))
