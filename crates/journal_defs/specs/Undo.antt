-- What leaves the image state below an epoch as it is (GT.M: a block's before-image is written out before the block is).
use Rattle.std.specs.Prelude.{◌≡◌, ◌≢◌, ◌⊎◌, ℕ, ◌≤◌, List, [], ◌∷◌, ◌++◌, IsSome}
use Rattle.journal_defs.specs.Journal.{JournalRecord, Pini, Epoch, Pblk, Tcom, Mark, Before}
use Rattle.journal_defs.specs.Sequence.{Placed}
use Rattle.journal_defs.specs.Epochs.{Blocks, Chosen, image_of}

-- at most this block has changed
abbrev pub SameBut : ℕ → Blocks → Blocks → Type 0
SameBut b old new = (c : ℕ) → c ≢ b → new c ≡ old c

-- a block may be written: it isn't below the epoch's `blocks`, or has an image after it
abbrev pub MayWrite : Chosen → ℕ → Type 0
MayWrite e b = (e.blocks ≤ b) ⊎ IsSome (image_of e.after b)

-- an image may be appended: its block may be written, or stands on the file with the image's bytes
abbrev pub MayLog : Chosen → Blocks → Before → Type 0
MayLog e database i = MayWrite e i.block ⊎ (database i.block ≡ i.bytes)

-- a record may be appended that is no EPOCH: an image as MayLog says, each other one
abbrev pub MayAppend : Chosen → Blocks → JournalRecord → Type 0
MayAppend e database (Pblk i) = MayLog e database i
MayAppend e database (Epoch m) = ⊥
MayAppend e database (Pini s) = Unit {0}
MayAppend e database (Tcom p) = Unit {0}

-- the epoch with one record more after it
abbrev pub logged : Chosen → Placed → Chosen
logged e p = record { number = e.number; blocks = e.blocks; after = e.after ++ p ∷ [] }

-- an epoch that is the last record
abbrev pub fresh : Mark → Chosen
fresh m = record { number = m.number; blocks = m.blocks; after = [] }

-- d is an earlier epoch of the same journal
abbrev pub IsEarlier : Chosen → Chosen → Type 0
IsEarlier d e = (between : List Placed) × (d.after ≡ between ++ e.after)
