use Rattle.std.proofs.Common.{arith, rules, Some}
use Rattle.repl_fields.proofs.Chains.{Reads, byte}
use Rattle.jnl_record.proofs.ItemLists.{no_position, some_item}
use Rattle.jnl_record.proofs.parts.read_item.Goals as goal

pub returns-in_default-read_u16 : goal.returns-in_default-read_u16
returns-in_default-read_u16 c =
    let four : Reads byte c.args.bytes.now (Some (4, c.in-Some-eq4-default.rest.now)) = search rules in
    no_position c.args.low c.args.count c.ranges.count.fits c.args.bytes.now _ four c.in_default-read_u16.ensures

pub returns : goal.returns
returns c =
    let four : Reads byte c.args.bytes.now (Some (4, c.in-Some-eq4-default.rest.now)) = search rules in
    some_item c.args.low c.args.count c.ranges.count.fits c.args.bytes.now _ four _ _ c.in-Some.ensures _ _ (omega arith) (omega arith) (rw c.in-Some-2.is at c.in_ok-update.ensures)
