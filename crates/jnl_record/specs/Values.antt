-- What a record of the code stands for.
use Rattle.std.specs.Prelude.{◌≡◌}
use Rattle.journal_defs.specs.Journal as journal
use Rattle.journal_defs.specs.Sequence.{Placed}
use Rattle.gvn_model.specs.Entries.{origin_value}
use Rattle.jnl_record.specs.declared.record.JnlRecord.{JnlRecord}
use Rattle.jnl_record.specs.declared.record.JnlRecord.TheVariants.{Pini, Epoch, Pblk, Tcom}
use Rattle.jnl_record.specs.declared.placed.PlacedRecord.{PlacedRecord}

-- the version isn't part of it
abbrev pub record_value : JnlRecord → journal.JournalRecord
record_value (Pini version region before generation previous) = journal.Pini (record { region = region; before = before; generation = generation; previous = previous })
record_value (Epoch closing number blocks) = journal.Epoch (record { closing = closing; number = number; blocks = blocks })
record_value (Pblk block image) = journal.Pblk (record { block = block; bytes = image })
record_value (Tcom number mask origin count items) = journal.Tcom (record { number = number; mask = mask; origin = origin_value origin; count = count; items = items })

-- the layout is that of version 1, the only one that there is
abbrev pub IsFirstVersion : JnlRecord → Type 0
IsFirstVersion (Pini version region before generation previous) = version ≡ 1
IsFirstVersion (Epoch closing number blocks) = Unit {0}
IsFirstVersion (Pblk block image) = Unit {0}
IsFirstVersion (Tcom number mask origin count items) = Unit {0}

abbrev pub placed_value : PlacedRecord → Placed
placed_value p = record { generation = p.generation; what = record_value p.what }
