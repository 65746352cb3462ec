-- What parts of the code stand for.
use Rattle.std.specs.Prelude.{ℕ, ◌==◌, nat_lt, Bool, true, false, Option, Some, None, if◌then◌else◌, List, []}
use Rattle.journal_defs.specs.Journal as journal
use Rattle.journal_defs.specs.Journal.{JournalRecord, Pini, Epoch, Pblk, Tcom}
use Rattle.journal_defs.specs.Instance.{InstanceRecord}
use Rattle.journal_defs.specs.Surviving.{survives}
use Rattle.journal_defs.specs.Sequence.{in_mask, items_of}
use Rattle.gvn_model.specs.Entries.{origin_value}
use Rattle.mupip_recover.specs.declared.part.Part.{Part}

abbrev pub part_value : Part → journal.Part
part_value p = record { number = p.number; mask = p.mask; origin = origin_value p.origin; count = p.count; items = p.items.now }

-- the part that the record is, where it survives
abbrev pub surviving_in : List InstanceRecord → ℕ → JournalRecord → Option journal.Part
surviving_in instance g (Tcom p) = if survives instance g p.number then Some p else None
surviving_in instance g (Pini s) = None
surviving_in instance g (Epoch m) = None
surviving_in instance g (Pblk b) = None

-- the part, where it has this number
abbrev pub if_numbered : ℕ → Option journal.Part → Option journal.Part
if_numbered n None = None
if_numbered n (Some p) = if p.number == n then Some p else None

-- the part, where its number is past a length
abbrev pub if_past : ℕ → Option journal.Part → Option journal.Part
if_past length None = None
if_past length (Some p) = if nat_lt length p.number then Some p else None

-- the record is a part of an entry
abbrev pub is_part : JournalRecord → Bool
is_part (Tcom p) = true
is_part (Pini s) = false
is_part (Epoch m) = false
is_part (Pblk b) = false

-- the items of a region, where the mask has it
abbrev pub items_at : ℕ → (ℕ → Option journal.Part) → ℕ → List journal.Item
items_at mask part r = if in_mask mask r then items_of (part r) else []
