use Rattle.std.proofs.Common.{◌≡◌, ℕ, drop, Option}
use Rattle.std.specs.List.{flat_map}
use Rattle.disk_defs.specs.Disk.{Files}
use Rattle.journal_defs.specs.Journal.{Part}
use Rattle.journal_defs.specs.Sequence.{REGIONS, items_in}
use Rattle.mupip_recover.specs.Parts.{items_at}
use Rattle.mupip_recover.specs.Slots.{next_after}
use Rattle.entry_index.specs.Table.{AreSigned}
use Rattle.entry_index.proofs.completing.are_in_order.Given as goal

abbrev pub invariant-loop-region : goal.invariant-loop-region
invariant-loop-region l = (files : Files) (n : ℕ) (part : ℕ → Option Part) → AreSigned files l.row n part
    → next_after 0 (items_in l.head.mask part) ≡ next_after l.next (flat_map (items_at l.head.mask part) (drop l.region REGIONS))
