use Rattle.std.proofs.Common.{arith}
use Rattle.mupip_recover.proofs.SlotLaws.{put_more, put_whole}
use Rattle.mupip_recover.proofs.slots.put_all.Goals as goal

pub loop-item-preserved : goal.loop-item-preserved
loop-item-preserved c = λ count items are.
    put_more count items c.args.added.now c.loop-item.item-index c.item-item.result c.loop-item.slots.items c.put.new.slots.items (omega arith) c.item-item.is c.in_ok-put.ensures (c.loop-item.invariant count items are)

pub returns : goal.returns
returns c = λ count items are.
    put_whole count items c.args.added.now c.loop-item.item-index c.loop-item.slots.items (omega arith) (c.loop-item.invariant count items are)
