use Rattle.std.proofs.Common.{length, sym, ◌∙◌, ap, arith}
use Rattle.std.proofs.lemmas.List.{length-map}
use Rattle.gvn_model.specs.Items.{item_value}
use Rattle.mupip_recover.specs.Parts.{items_at}
use Rattle.mupip_recover.specs.Table.{part_at}
use Rattle.mupip_recover.proofs.RegionLists.{count_more, count_over}
use Rattle.mupip_recover.proofs.completing.has_count.Goals as goal

pub returns-then-many-left : goal.returns-then-many-left
returns-then-many-left c =
    count_over (items_at c.args.head.now.mask (part_at c.args.table.now c.args.place)) c.loop-region.region c.loop-region.left (length c.items_of-many.result.now) c.args.head.now.count
    (omega arith) (sym (ap length c.items_of-many.ensures) ∙ length-map c.items_of-many.result.now item_value) (omega arith) c.loop-region.invariant

pub loop-region-preserved : goal.loop-region-preserved
loop-region-preserved c =
    count_more (items_at c.args.head.now.mask (part_at c.args.table.now c.args.place)) c.loop-region.region c.loop-region.left (length c.items_of-many.result.now) c.args.head.now.count
    (omega arith) (sym (ap length c.items_of-many.ensures) ∙ length-map c.items_of-many.result.now item_value) (omega arith) c.loop-region.invariant
