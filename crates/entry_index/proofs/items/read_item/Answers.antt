use Rattle.std.proofs.Common.{arith, rules, Some}
use Rattle.entry_index.specs.Fields.{Reads, byte}
use Rattle.jnl_record.proofs.ItemLists.{no_position}
use Rattle.entry_index.proofs.ItemLists.{some_item}
use Rattle.entry_index.proofs.items.read_item.Goals as goal

pub returns-in_default-read_u16 : goal.returns-in_default-read_u16
returns-in_default-read_u16 c =
    let four : Reads byte c.args.bytes.now (Some (4, c.in-Some-eq4-default.rest.now)) = search rules in
    no_position c.args.low c.args.count c.ranges.count.fits c.args.bytes.now _ four c.in_default-read_u16.ensures

pub returns-in-Some-past_update : goal.returns-in-Some-past_update
returns-in-Some-past_update c =
    let four : Reads byte c.args.bytes.now (Some (4, c.in-Some-eq4-default.rest.now)) = search rules in
    some_item c.args.low c.args.count c.ranges.count.fits c.args.bytes.now _ four _ _ c.in-Some.ensures _ (omega arith) (omega arith) c.in-Some-past_update.ensures
