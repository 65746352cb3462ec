use Rattle.std.proofs.Common.{◌≡◌, ◌+◌, List, ◌++◌, sym, ◌∙◌, ap, subst, arith, take}
use Rattle.std.specs.List.{flat_map}
use Rattle.journal_defs.specs.Journal.{Item}
use Rattle.journal_defs.specs.Sequence.{REGIONS}
use Rattle.mupip_recover.specs.Parts.{items_at}
use Rattle.mupip_recover.specs.Table.{part_at}
use Rattle.mupip_recover.specs.Slots.{AreSlots}
use Rattle.mupip_recover.proofs.RegionLists.{flat_more}
use Rattle.mupip_recover.proofs.completing.slots_of.Goals as goal

pub loop-region-preserved : goal.loop-region-preserved
loop-region-preserved c =
    let f = items_at c.args.head.now.mask (part_at c.args.table.now c.args.place) in
    let more : flat_map f (take c.loop-region.region REGIONS) ++ f c.loop-region.region ≡ flat_map f (take (c.loop-region.region + 1) REGIONS) = sym (flat_more f c.loop-region.region (omega arith)) in
    subst (λ (l : List Item). AreSlots c.args.head.now.count l c.put_all.new.slots.items)
    (ap (λ (l : List Item). flat_map f (take c.loop-region.region REGIONS) ++ l) c.items_of.ensures ∙ more)
    (c.in_ok-put_all.ensures c.args.head.now.count (flat_map f (take c.loop-region.region REGIONS)) c.loop-region.invariant)
