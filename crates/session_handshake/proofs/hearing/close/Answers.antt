use Rattle.std.proofs.lemmas.Result.{IfOk-weaker}
use Rattle.recv_pool.specs.Pools.{put_in, free}
use Rattle.receiver_server.proofs.Told.{same_purpose}
use Rattle.session_handshake.proofs.Steps.{end_answered, end_bad, end_over, end_open, end_cut, end_told}
use Rattle.session_handshake.proofs.hearing.close.Goals as goal

pub returns-then-is_over-clause-answered : goal.returns-then-is_over-clause-answered
returns-then-is_over-clause-answered g c =
    end_answered c.args.receiver.now c.step-step.new.self (g.R.LinkRx.receiving c.args.rx.now) (g.R.LinkRx.receiving c.step-step.new.rx) (put_in c.args.pool.now) (put_in c.step-step.new.pool) (free c.args.pool.now) (free c.step-step.new.pool)
    c.step-step.ensures.same.shown c.step-step.ensures.places c.step-step.result c.offset.result c.ended.result c.ended.ensures c.step-step.ensures.does c.step-step.ensures.hears

pub returns-then-is_over-clause-over : goal.returns-then-is_over-clause-over
returns-then-is_over-clause-over g c = end_over _ c.step-step.result c.offset.result c.ended.result c.ended.ensures (IfOk-weaker c.step-step.result _ _ (λ x f e. λ _. (f e).0) c.step-step.ensures.over)

pub returns-then-is_over-clause-bad : goal.returns-then-is_over-clause-bad
returns-then-is_over-clause-bad g c =
    end_bad c.args.receiver.now c.step-step.new.self (g.R.LinkRx.receiving c.args.rx.now) (g.R.LinkRx.receiving c.step-step.new.rx) (put_in c.args.pool.now) (put_in c.step-step.new.pool) (free c.args.pool.now) (free c.step-step.new.pool)
    c.step-step.ensures.same.shown c.step-step.ensures.places c.step-step.result c.offset.result c.ended.result c.ended.ensures
    (λ place. c.step-step.ensures.behind (c.is_over.ensures.0 c.if-is_over.true) place) c.step-step.ensures.bad c.requires.open c.step-step.ensures.closed

pub returns-then-is_over-clause-closed : goal.returns-then-is_over-clause-closed
returns-then-is_over-clause-closed g c = end_open (g.R.LinkRx.receiving c.args.rx.now).closed (g.R.LinkRx.receiving c.step-step.new.rx).closed c.step-step.result c.offset.result c.ended.result c.ended.ensures c.requires.open c.step-step.ensures.closed

pub returns-then-is_over-clause-cut : goal.returns-then-is_over-clause-cut
returns-then-is_over-clause-cut g c = λ e. c.step-step.ensures.cut (end_cut c.step-step.result c.offset.result c.ended.result c.ended.ensures e)

pub returns-then-is_over-clause-uncut : goal.returns-then-is_over-clause-uncut
returns-then-is_over-clause-uncut g c = λ not. c.step-step.ensures.uncut (λ e. not (end_told c.step-step.result c.offset.result c.ended.result c.ended.ensures e))

pub returns-then-is_over-clause-purpose : goal.returns-then-is_over-clause-purpose
returns-then-is_over-clause-purpose g c = same_purpose c.step-step.result c.args.receiver.now c.step-step.new.self c.step-step.ensures.does
