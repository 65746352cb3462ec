use Rattle.std.proofs.Common.{◌≡◌, ◌++◌, take, map}
use Rattle.std.specs.List.{flat_map}
use Rattle.gvn_model.specs.Items.{item_value}
use Rattle.journal_defs.specs.Journal.{spelled_item}
use Rattle.jnl_record.proofs.writing.write_items.Given as goal

-- the items so far are written
abbrev pub invariant-loop-item : goal.invariant-loop-item
invariant-loop-item l = l.out ≡ l.fn.out ++ flat_map spelled_item (map item_value (take l.item-index l.items))
