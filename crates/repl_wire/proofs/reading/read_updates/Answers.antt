use Rattle.std.proofs.Common.{arith, Some, None}
use Rattle.global_defs.specs.Fields.{IsUpdate, spelled_update}
use Rattle.gvn_key.specs.Terms.{update_value}
use Rattle.repl_wire.proofs.Found.{so_far_none, so_far_step, update_found}
use Rattle.repl_wire.proofs.reading.read_updates.Goals as goal

pub returns-in_default : goal.returns-in_default
returns-in_default c =
    let size = c.loop.invariant.0 in
    let less = c.loop-test.true in
    λ xs a l e. absurd (so_far_none IsUpdate spelled_update c.args.bytes.now c.args.count c.loop.updates c.loop.rest.now (omega arith) c.loop.invariant.1 (update_found c.loop.rest.now None (rw c.in_default.is at c.in_ok-update.ensures)) xs a l e)

pub loop-preserved : goal.loop-preserved
loop-preserved c =
    so_far_step IsUpdate spelled_update c.args.bytes.now c.args.count c.loop.updates c.push.new.self c.loop.counter c.loop.rest.now (update_value c.in-Some.update) c.in-Some.behind.now c.loop.invariant.0 c.loop-test.true c.loop.invariant.1
    (update_found c.loop.rest.now (Some (update_value c.in-Some.update, c.in-Some.behind.now)) (rw c.in-Some.is at c.in_ok-update.ensures)) c.in_ok-push.ensures.ok
