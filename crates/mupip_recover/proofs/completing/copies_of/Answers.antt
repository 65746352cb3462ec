use Rattle.std.proofs.Common.{◌++◌, List, map, take, ◌∙◌, ap, arith}
use Rattle.std.specs.List.{flat_map}
use Rattle.global_defs.specs.Entry.{Item, Update}
use Rattle.journal_defs.specs.Sequence.{REGIONS}
use Rattle.gvn_model.specs.Items.{item_value}
use Rattle.mupip_recover.specs.Parts.{items_at}
use Rattle.mupip_recover.specs.Table.{part_at}
use Rattle.mupip_recover.proofs.InOrder.{updates_more}
use Rattle.mupip_recover.proofs.completing.copies_of.Goals as goal

pub loop-region-preserved : goal.loop-region-preserved
loop-region-preserved c =
    let f = items_at c.args.head.now.mask (part_at c.args.table.now c.args.place) in
    c.in_ok-add_copies.ensures
    ∙ ap (λ (l : List Update). l ++ map (λ (x : Item). x.update) (map item_value c.items_of.result.now)) c.loop-region.invariant
    ∙ ap (λ (l : List Item). map (λ (x : Item). x.update) (flat_map f (take c.loop-region.region REGIONS)) ++ map (λ (x : Item). x.update) l) c.items_of.ensures
    ∙ updates_more f c.loop-region.region (omega arith)
