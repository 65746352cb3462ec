use Rattle.std.proofs.Common.{ℕ, List, ◌++◌, map, take}
use Rattle.global_defs.specs.Entry.{Item}
use Rattle.gvn_model.specs.Items.{item_value}
use Rattle.mupip_recover.specs.Slots.{AreSlots}
use Rattle.mupip_recover.proofs.slots.put_all.Given as goal

abbrev pub invariant-loop-item : goal.invariant-loop-item
invariant-loop-item l = (count : ℕ) (items : List Item) → AreSlots count items l.fn.slots.items → AreSlots count (items ++ map item_value (take l.item-index l.added)) l.slots.items
