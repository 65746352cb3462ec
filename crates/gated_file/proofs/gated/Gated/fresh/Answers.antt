use Rattle.std.proofs.Common.{[], IfSome}
use Rattle.gated_file.specs.State.{settled}
use Rattle.gated_file.specs.Gated.{IsStanding, HasState, IsReady}
use Rattle.gated_file.proofs.Begins.{settle_keeps, settle_then, if_ok, begun_ready, begun_state}
use Rattle.gated_file.proofs.gated.Gated.fresh.Goals as goal

pub returns-in_err-size-clause-any_moment : goal.returns-in_err-size-clause-any_moment
returns-in_err-size-clause-any_moment g c =
    let view = g.D.Disk.disk in
    settle_keeps (view c.args.disk.now) (view c.settle.new.disk) c.args.file c.settle.ensures.any_moment

pub returns-in_err-begin-clause-any_moment : goal.returns-in_err-begin-clause-any_moment
returns-in_err-begin-clause-any_moment g c =
    let view = g.D.Disk.disk in
    settle_then (view c.args.disk.now) (view c.settle.new.disk) (view c.begin.new.disk) c.args.file (g.met.D.Disk.lawful c.settle.new.disk) c.settle.ensures.content c.settle.ensures.any_moment c.begin.ensures.any_moment

pub returns-clause-any_moment : goal.returns-clause-any_moment
returns-clause-any_moment g c =
    let view = g.D.Disk.disk in
    settle_then (view c.args.disk.now) (view c.settle.new.disk) (view c.begin.new.disk) c.args.file (g.met.D.Disk.lawful c.settle.new.disk) c.settle.ensures.content c.settle.ensures.any_moment c.begin.ensures.any_moment

pub returns-clause-ready : goal.returns-clause-ready
returns-clause-ready g c =
    let view = g.D.Disk.disk in
    let w = view c.begin.new.disk in
    if_ok c.standing.result (λ made. IsStanding made c.args.file 0) (λ made. IsReady w made) c.standing.ensures.made (λ made standing. begun_ready w made c.args.file (g.met.D.Disk.lawful c.begin.new.disk) standing c.in_ok-begin.ensures.begun)

pub returns-clause-state : goal.returns-clause-state
returns-clause-state g c =
    let view = g.D.Disk.disk in
    let v = view c.args.disk.now in
    let w = view c.begin.new.disk in
    if_ok c.standing.result (λ made. IsStanding made c.args.file 0) (λ made. IfSome v.content (λ _. HasState w made (settled []))) c.standing.ensures.made
    (λ made standing. begun_state v (view c.settle.new.disk) w made c.args.file standing c.settle.ensures.content c.begin.ensures.frame c.in_ok-begin.ensures.begun)
