use Rattle.std.proofs.Common.{arith}
use Rattle.global_defs.specs.Fields.{IsReign}
use Rattle.wire_defs.specs.Frames.{spelled_reign}
use Rattle.gvn_model.specs.Reigns.{reign_value}
use Rattle.repl_wire.proofs.Found.{so_far_none, so_far_step}
use Rattle.repl_wire.proofs.reading.read_reigns.Goals as goal

pub returns-in_default : goal.returns-in_default
returns-in_default c =
    let size = c.loop.invariant.0 in
    let less = c.loop-test.true in
    λ xs a l e. absurd (so_far_none IsReign spelled_reign c.args.bytes.now c.args.count c.loop.reigns c.loop.rest.now (omega arith) c.loop.invariant.1 (rw c.in_default.is at c.in_ok-reign.ensures) xs a l e)

pub loop-preserved : goal.loop-preserved
loop-preserved c =
    so_far_step IsReign spelled_reign c.args.bytes.now c.args.count c.loop.reigns c.push.new.self c.loop.counter c.loop.rest.now (reign_value c.in-Some.reign) c.in-Some.behind.now c.loop.invariant.0 c.loop-test.true c.loop.invariant.1
    (rw c.in-Some.is at c.in_ok-reign.ensures) c.in_ok-push.ensures.ok
