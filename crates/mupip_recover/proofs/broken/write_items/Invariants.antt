use Rattle.std.proofs.Common.{◌≡◌, ◌++◌, take, map}
use Rattle.std.specs.List.{flat_map}
use Rattle.gvn_model.specs.Items.{item_value}
use Rattle.journal_defs.specs.Broken.{update_line}
use Rattle.mupip_recover.proofs.broken.write_items.Given as goal

abbrev pub invariant-loop-item : goal.invariant-loop-item
invariant-loop-item l = l.out ≡ l.fn.out ++ flat_map (λ i. update_line l.fields i.update) (map item_value (take l.item-index l.items))
