-- An epoch by its place in the journals of its region.
use Rattle.std.specs.Prelude.{List, drop}
use Rattle.journal_defs.specs.Sequence.{Placed}
use Rattle.journal_defs.specs.Epochs.{Chosen}
use Rattle.region_opening.specs.declared.epoch.EpochAt.{EpochAt}

-- the epoch with the records behind it
abbrev pub chosen_at : EpochAt → List Placed → Chosen
chosen_at e journal = record { number = e.number; blocks = e.blocks; after = drop e.after journal }
