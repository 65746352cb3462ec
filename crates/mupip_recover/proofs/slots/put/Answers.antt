use Rattle.std.proofs.Common.{◌≡◌, ◌<◌, length, get_or, is_some, true, None, arith, ap}
use Rattle.std.proofs.lemmas.Grind.{common_steps}
use Rattle.gvn_key.specs.Terms.{update_value}
use Rattle.gvn_model.specs.Items.{item_value}
use Rattle.mupip_recover.proofs.SlotLaws.{kept_at, filled_at}
use Rattle.mupip_recover.proofs.slots.put.Goals as goal
use Rattle.mupip_recover.proofs.slots.put.Goals.{else-position-len-via-then-position-len+else-is_none, else-position-len-via-else-position-len}

pub returns-in_ok-copy_of : goal.returns-in_ok-copy_of
returns-in_ok-copy_of c = λ count items are.
    let within : c.from-position.result < length c.args.slots.now.items = grind (arith, common_steps) in
    let empty : get_or c.args.slots.now.items c.from-position.result None ≡ None = grind (arith, common_steps) in
    filled_at count items c.args.slots.now.items (item_value c.args.item.now) c.in_ok-copy_of.field-0 c.from-position.result c.from-position.ensures are within empty (ap update_value c.in_ok-copy_of.ensures)

pub returns-else-position-len : goal.returns-else-position-len
returns-else-position-len c = λ count items are.
    let taken : c.from-position.result < length c.args.slots.now.items → is_some (get_or c.args.slots.now.items c.from-position.result None) ≡ true =
    λ low. elim c.else-position-len.branch [
      | else-position-len-via-then-position-len+else-is_none w ↦ grind (arith, common_steps)
      | else-position-len-via-else-position-len w ↦ grind (arith, common_steps)
    ] in
    kept_at count items c.args.slots.now.items (item_value c.args.item.now) c.from-position.result c.from-position.ensures are taken
