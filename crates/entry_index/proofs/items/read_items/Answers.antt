use Rattle.std.proofs.Common.{arith}
use Rattle.entry_index.proofs.ItemLists.{passed_first, passed_more, passed_out, passed_all, many_passed}
use Rattle.entry_index.proofs.items.read_items.Goals as goal

pub loop-init : goal.loop-init
loop-init c = passed_first c.args.n c.args.count c.args.bytes.now

pub loop-preserved : goal.loop-preserved
loop-preserved c = passed_more _ _ _ _ _ _ _ c.loop.invariant _ _ _ c.in_ok-position.ensures c.with_one_more-span.ensures

pub with_one_more-span-requires : goal.with_one_more-span-requires
with_one_more-span-requires c = omega (arith, many_passed _ _ _ _ _ _ _ c.loop.invariant)

pub returns-in_err-position : goal.returns-in_err-position
returns-in_err-position c = rw c.from_residual.ensures (passed_out _ _ _ _ _ _ _ c.loop.invariant (omega arith) c.in_err-position.ensures)

pub returns : goal.returns
returns c = passed_all _ _ _ _ _ _ _ c.loop.invariant (omega arith)
