-- Several blocks written at once, and several records appended at once.
use Rattle.std.specs.Prelude.{◌≡◌, ◌⊎◌, ℕ, Bool, true, false, List, [], ◌∷◌, ◌++◌, filter, Option, Some, None}
use Rattle.std.specs.List.{AllByRecursion}
use Rattle.journal_defs.specs.Journal.{JournalRecord, Pini, Epoch, Pblk, Tcom, Mark}
use Rattle.journal_defs.specs.Sequence.{Placed}
use Rattle.journal_defs.specs.Epochs.{Blocks, Chosen}
use Rattle.journal_defs.specs.Undo.{MayWrite, MayAppend}

-- each block may be written, or is as it was
abbrev pub MayChange : Chosen → Blocks → Blocks → Type 0
MayChange e old new = (b : ℕ) → MayWrite e b ⊎ (new b ≡ old b)

-- Each of these records may be appended. An image that may be appended still may be behind others, so one epoch serves for all.
abbrev pub MayAppendAll : Chosen → Blocks → List Placed → Type 0
MayAppendAll e database ps = AllByRecursion (λ p. MayAppend e database p.what) ps

-- the epoch with these records more after it
abbrev pub logged_all : Chosen → List Placed → Chosen
logged_all e ps = record { number = e.number; blocks = e.blocks; after = e.after ++ ps }

-- whether the record is a TCOM
abbrev pub is_tcom : JournalRecord → Bool
is_tcom (Tcom p) = true
is_tcom (Pini s) = false
is_tcom (Epoch m) = false
is_tcom (Pblk b) = false

-- the TCOM records among these
abbrev pub tcoms_among : List Placed → List Placed
tcoms_among ps = filter (λ p. is_tcom p.what) ps

-- an EPOCH record, where there is one
abbrev pub marked : ℕ → Option Mark → List Placed
marked g None = []
marked g (Some m) = record { generation = g; what = Epoch m } ∷ []

-- the record of an EPOCH, where there is one
abbrev pub epoch_of : Option Mark → List JournalRecord
epoch_of None = []
epoch_of (Some m) = Epoch m ∷ []

-- the EPOCH of a region, where it has one
abbrev pub marks_in : (ℕ → Option Mark) → ℕ → List JournalRecord
marks_in marks r = epoch_of (marks r)
