-- An epoch by its place in the journals of its region.
use Rattle.std.specs.Prelude.{List, drop, map}
use Rattle.journal_defs.specs.Epochs.{Chosen}
use Rattle.jnl_record.specs.declared.placed.PlacedRecord.{PlacedRecord}
use Rattle.jnl_record.specs.Values.{placed_value}
use Rattle.mupip_recover.specs.declared.epoch.EpochAt.{EpochAt}

-- the epoch with the records behind it
abbrev pub chosen_at : EpochAt → List PlacedRecord → Chosen
chosen_at e journal = record { number = e.number; blocks = e.blocks; after = map placed_value (drop e.after journal) }
