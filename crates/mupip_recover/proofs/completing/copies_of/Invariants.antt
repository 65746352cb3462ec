use Rattle.std.proofs.Common.{◌≡◌, map, take}
use Rattle.std.specs.List.{flat_map}
use Rattle.journal_defs.specs.Sequence.{REGIONS}
use Rattle.mupip_recover.specs.Parts.{items_at}
use Rattle.mupip_recover.specs.Table.{part_at}
use Rattle.mupip_recover.proofs.completing.copies_of.Given as goal

abbrev pub invariant-loop-region : goal.invariant-loop-region
invariant-loop-region l = l.made ≡ map (λ x. x.update) (flat_map (items_at l.head.mask (part_at l.table l.place)) (take l.region REGIONS))
