use Rattle.std.proofs.Common.{◌≡◌, drop}
use Rattle.std.specs.List.{flat_map}
use Rattle.journal_defs.specs.Sequence.{REGIONS, items_in}
use Rattle.mupip_recover.specs.Parts.{items_at}
use Rattle.mupip_recover.specs.Table.{part_at}
use Rattle.mupip_recover.specs.Slots.{next_after}
use Rattle.mupip_recover.proofs.completing.are_in_order.Given as goal

abbrev pub invariant-loop-region : goal.invariant-loop-region
invariant-loop-region l =
    next_after 0 (items_in l.head.mask (part_at l.table l.place)) ≡ next_after l.next (flat_map (items_at l.head.mask (part_at l.table l.place)) (drop l.region REGIONS))
