use Rattle.std.proofs.Common.{ℕ, Option, subst}
use Rattle.std.proofs.lemmas.Result.{IfOk-weaker}
use Rattle.recv_pool.specs.Pools.{put_in, free}
use Rattle.receiver_server.specs.declared.step.Handshake.{Handshake}
use Rattle.session_handshake.specs.Answering.{StepMeans}
use Rattle.receiver_server.proofs.Told.{same_purpose}
use Rattle.session_handshake.proofs.Steps.{goes_on, answers_it, bad_there, never_more, moves_on, tires_on, cut_of, cut_told, closed_on}
use Rattle.session_handshake.proofs.hearing.hear_step.Goals as goal

pub returns-clause-awaits : goal.returns-clause-awaits
returns-clause-awaits g c =
    let a = c.args.receiver.now in
    let b = c.step-step.new.self in
    let ra = g.R.LinkRx.receiving c.args.rx.now in
    let rb = g.R.LinkRx.receiving c.step-step.new.rx in
    IfOk-weaker c.meant.result _ _ (λ (o : Option Handshake) x e. (x e).0)
    (goes_on a b ra rb (put_in c.args.pool.now) (put_in c.step-step.new.pool) (free c.args.pool.now) (free c.step-step.new.pool) c.requires.awaits c.step-step.ensures.same.shown c.step-step.ensures.places
    c.step-step.result c.has_waiting.result c.offset.result c.meant.result c.meant.ensures c.step-step.ensures.does c.step-step.ensures.hears c.step-step.ensures.rest c.step-step.ensures.over)

pub returns-clause-still : goal.returns-clause-still
returns-clause-still g c =
    let a = c.args.receiver.now in
    let b = c.step-step.new.self in
    let ra = g.R.LinkRx.receiving c.args.rx.now in
    let rb = g.R.LinkRx.receiving c.step-step.new.rx in
    IfOk-weaker c.meant.result _ _ (λ (o : Option Handshake) x e. (x e).1)
    (goes_on a b ra rb (put_in c.args.pool.now) (put_in c.step-step.new.pool) (free c.args.pool.now) (free c.step-step.new.pool) c.requires.awaits c.step-step.ensures.same.shown c.step-step.ensures.places
    c.step-step.result c.has_waiting.result c.offset.result c.meant.result c.meant.ensures c.step-step.ensures.does c.step-step.ensures.hears c.step-step.ensures.rest c.step-step.ensures.over)

pub returns-clause-answered : goal.returns-clause-answered
returns-clause-answered g c =
    let a = c.args.receiver.now in
    let b = c.step-step.new.self in
    let ra = g.R.LinkRx.receiving c.args.rx.now in
    let rb = g.R.LinkRx.receiving c.step-step.new.rx in
    answers_it a b ra rb (put_in c.args.pool.now) (put_in c.step-step.new.pool) (free c.args.pool.now) (free c.step-step.new.pool) c.requires.awaits c.step-step.ensures.same.shown c.step-step.ensures.places
    c.step-step.result c.has_waiting.result c.offset.result c.meant.result c.meant.ensures c.step-step.ensures.does c.step-step.ensures.hears

pub returns-clause-bad : goal.returns-clause-bad
returns-clause-bad g c = λ shown.
    let a = c.args.receiver.now in
    let b = c.step-step.new.self in
    let ra = g.R.LinkRx.receiving c.args.rx.now in
    let rb = g.R.LinkRx.receiving c.step-step.new.rx in
    bad_there a b ra rb (put_in c.args.pool.now) (put_in c.step-step.new.pool) (free c.args.pool.now) (free c.step-step.new.pool) c.requires.awaits c.step-step.ensures.same.shown c.step-step.ensures.places
    c.step-step.result c.has_waiting.result c.meant.result (subst (λ (n : ℕ). StepMeans c.step-step.result c.has_waiting.result n c.meant.result) c.offset.ensures c.meant.ensures) c.step-step.ensures.does c.step-step.ensures.hears
    c.has_waiting.ensures.is c.step-step.ensures.full c.step-step.ensures.ended c.step-step.ensures.bad c.requires.open c.step-step.ensures.closed shown

pub returns-clause-closed : goal.returns-clause-closed
returns-clause-closed g c =
    closed_on (g.R.LinkRx.receiving c.args.rx.now).closed (g.R.LinkRx.receiving c.step-step.new.rx).closed c.step-step.result c.has_waiting.result c.offset.result c.meant.result c.meant.ensures c.requires.open c.step-step.ensures.closed

pub returns-clause-cut : goal.returns-clause-cut
returns-clause-cut g c = λ e. c.step-step.ensures.cut (cut_of c.step-step.result c.has_waiting.result c.offset.result c.meant.result c.meant.ensures e)

pub returns-clause-uncut : goal.returns-clause-uncut
returns-clause-uncut g c = λ not. c.step-step.ensures.uncut (λ e. not (cut_told c.step-step.result c.has_waiting.result c.offset.result c.meant.result c.meant.ensures e))

pub returns-clause-moves : goal.returns-clause-moves
returns-clause-moves g c = λ told some.
    let a = c.args.receiver.now in
    let b = c.step-step.new.self in
    let ra = g.R.LinkRx.receiving c.args.rx.now in
    let rb = g.R.LinkRx.receiving c.step-step.new.rx in
    moves_on a b ra rb (put_in c.args.pool.now) (put_in c.step-step.new.pool) (free c.args.pool.now) (free c.step-step.new.pool) c.requires.awaits c.step-step.ensures.same.shown c.step-step.ensures.places
    c.step-step.result c.has_waiting.result c.offset.result c.meant.result c.meant.ensures c.step-step.ensures.does c.step-step.ensures.rest c.step-step.ensures.over c.has_waiting.ensures.is
    (λ none. c.step-step.ensures.waits none told) some

pub returns-clause-fewer : goal.returns-clause-fewer
returns-clause-fewer g c =
    let a = c.args.receiver.now in
    let b = c.step-step.new.self in
    let ra = g.R.LinkRx.receiving c.args.rx.now in
    let rb = g.R.LinkRx.receiving c.step-step.new.rx in
    never_more a b ra rb (put_in c.args.pool.now) (put_in c.step-step.new.pool) (free c.args.pool.now) (free c.step-step.new.pool) c.requires.awaits c.step-step.ensures.same.shown c.step-step.ensures.places
    c.step-step.result c.has_waiting.result c.offset.result c.meant.result c.meant.ensures c.step-step.ensures.does c.step-step.ensures.rest c.step-step.ensures.over

pub returns-clause-tires : goal.returns-clause-tires
returns-clause-tires g c = λ told.
    let a = c.args.receiver.now in
    let b = c.step-step.new.self in
    let ra = g.R.LinkRx.receiving c.args.rx.now in
    let rb = g.R.LinkRx.receiving c.step-step.new.rx in
    tires_on a b ra rb (put_in c.args.pool.now) (put_in c.step-step.new.pool) (free c.args.pool.now) (free c.step-step.new.pool) c.requires.awaits c.step-step.ensures.same.shown c.step-step.ensures.places
    c.step-step.result c.has_waiting.result c.offset.result c.meant.result c.meant.ensures c.step-step.ensures.does c.step-step.ensures.rest c.step-step.ensures.over c.has_waiting.ensures.is
    (λ none fresh going. c.step-step.ensures.patience none fresh going told)

pub returns-clause-purpose : goal.returns-clause-purpose
returns-clause-purpose g c = same_purpose c.step-step.result c.args.receiver.now c.step-step.new.self c.step-step.ensures.does
