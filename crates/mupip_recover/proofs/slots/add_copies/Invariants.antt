use Rattle.std.proofs.Common.{◌≡◌, ◌++◌, map, take}
use Rattle.gvn_model.specs.Items.{item_value}
use Rattle.mupip_recover.proofs.slots.add_copies.Given as goal

abbrev pub invariant-loop-item : goal.invariant-loop-item
invariant-loop-item l = l.updates ≡ l.fn.updates ++ map (λ x. x.update) (map item_value (take l.item-index l.added))
