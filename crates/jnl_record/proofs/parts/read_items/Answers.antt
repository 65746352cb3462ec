use Rattle.std.proofs.Common.{arith}
use Rattle.jnl_record.proofs.ItemLists.{goes_first, goes_on, goes_out, goes_done}
use Rattle.jnl_record.proofs.parts.read_items.Goals as goal

pub loop-init : goal.loop-init
loop-init c = rw c.new-items.ensures (goes_first c.args.n c.args.count c.args.bytes.now)

pub loop-preserved : goal.loop-preserved
loop-preserved c = rw c.in_ok-push.ensures.ok (goes_on _ _ _ _ _ _ _ c.loop.invariant _ _ (rw c.in-Some.is at c.in_ok-item.ensures))

pub returns-in_default : goal.returns-in_default
returns-in_default c = goes_out _ _ _ _ _ _ _ c.loop.invariant (omega arith) (rw c.in_default.is at c.in_ok-item.ensures)

pub returns : goal.returns
returns c = goes_done _ _ _ _ _ _ _ c.loop.invariant (omega arith)
