use Rattle.std.proofs.Common.{◌≡◌, ℕ, ◌+◌, length, take, Option}
use Rattle.std.specs.List.{flat_map}
use Rattle.disk_defs.specs.Disk.{Files}
use Rattle.journal_defs.specs.Journal.{Part}
use Rattle.journal_defs.specs.Sequence.{REGIONS}
use Rattle.mupip_recover.specs.Parts.{items_at}
use Rattle.entry_index.specs.Table.{AreSigned}
use Rattle.entry_index.proofs.completing.has_count.Given as goal

abbrev pub invariant-loop-region : goal.invariant-loop-region
invariant-loop-region l = (files : Files) (n : ℕ) (part : ℕ → Option Part) → AreSigned files l.row n part
    → length (flat_map (items_at l.head.mask part) (take l.region REGIONS)) + l.left ≡ l.head.count
