use Rattle.std.proofs.Common.{◌≡◌, drop}
use Rattle.std.specs.List.{list_all}
use Rattle.std.specs.Prelude.{not, ◌||◌}
use Rattle.journal_defs.specs.Sequence.{REGIONS, in_mask, is_like}
use Rattle.mupip_recover.specs.Parts.{part_value}
use Rattle.mupip_recover.specs.Table.{part_at}
use Rattle.mupip_recover.proofs.completing.all_agree.Given as goal

abbrev pub invariant-loop-region : goal.invariant-loop-region
invariant-loop-region l =
    list_all (λ r. not (in_mask l.head.mask r) || is_like (part_value l.head) (part_at l.table l.place r)) REGIONS
    ≡ list_all (λ r. not (in_mask l.head.mask r) || is_like (part_value l.head) (part_at l.table l.place r)) (drop l.region REGIONS)
