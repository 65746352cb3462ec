use Rattle.std.proofs.Common.{◌≡◌, map, drop}
use Rattle.gvn_model.specs.Items.{item_value}
use Rattle.mupip_recover.specs.Slots.{next_after}
use Rattle.mupip_recover.proofs.slots.position_after.Given as goal

abbrev pub invariant-loop-item : goal.invariant-loop-item
invariant-loop-item l = next_after l.fn.first (map item_value l.items) ≡ next_after l.next (map item_value (drop l.item-index l.items))
