use Rattle.std.proofs.Common.{arith}
use Rattle.wire_defs.proofs.PoolWords.{place_below}
use Rattle.pool_rule.specs.declared.views.View.{View}
use Rattle.jnl_pool.proofs.writer.Writer.harden.Goals as goal

pub harden-requires-clause-order : goal.harden-requires-clause-order
harden-requires-clause-order c =
    let k = c.self.invariant in
    let v : View = c.self.inside.seat.view in
    let h = k.hardened_is.0 in
    let below = place_below c.self.inside.first v.entries c.self.inside.hardened k.hardened_is.1 in
    let at = k.place_is in
    let w = k.all_written in
    (omega arith, omega arith)
