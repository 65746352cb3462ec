-- What items of the code stand for.
use Rattle.global_defs.specs.Entry as defs
use Rattle.gvn_key.specs.Terms.{update_value}
use Rattle.gvn_model.specs.declared.items.Item.{Item}

abbrev pub item_value : Item → defs.Item
item_value i = record { position = i.position; update = update_value i.update }
