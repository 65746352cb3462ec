use Rattle.std.proofs.Common.{[], subst, ◌∙◌}
use Rattle.ship_defs.specs.Hearing.{Purpose, Heard}
use Rattle.recv_pool.specs.Pools.{put_in, free}
use Rattle.receiver_server.specs.Listenings.{IsUnfitBehind}
use Rattle.session_handshake.specs.Answering.{HasAnswer}
use Rattle.session_handshake.specs.Exchanges.{views}
use Rattle.session_handshake.proofs.Turns.{answering_on, same_in}
use Rattle.session_handshake.proofs.hearing.hear.Goals as goal

pub returns-in-Ok-Some-clause-carries : goal.returns-in-Ok-Some-clause-carries
returns-in-Ok-Some-clause-carries g c = (c.answer_turn.new.answer, c.answer_turn.ensures.carries c.args.answer c.loop-answer.invariant.1.carries)

pub returns-in-Err-clause-carries : goal.returns-in-Err-clause-carries
returns-in-Err-clause-carries g c = (c.answer_turn.new.answer, c.answer_turn.ensures.carries c.args.answer c.loop-answer.invariant.1.carries)

pub returns-in-Ok-Some-clause-answered : goal.returns-in-Ok-Some-clause-answered
returns-in-Ok-Some-clause-answered g c =
    subst (λ (b : Heard). HasAnswer b c.answer_turn.new.receiver (g.L.Linker.links c.args.links.now).shown (g.L.Rx.LinkRx.receiving c.answer_turn.new.ends.down_rx).received (put_in c.answer_turn.new.pool) (free c.answer_turn.new.pool) c.in-Ok-Some.answer)
    c.loop-answer.invariant.6 (c.in-Ok-Some.ensures.answered c.in-Ok-Some.answer c.in-Ok-Some.field-0-is)

pub returns-in-Err-clause-bad : goal.returns-in-Err-clause-bad
returns-in-Err-clause-bad g c = λ shown offset e.
    let rx = g.L.Rx.LinkRx.receiving c.answer_turn.new.ends.down_rx in
    subst (λ (p : Purpose). IsUnfitBehind p c.args.receiver.now.heard [] rx.received rx.closed offset) c.loop-answer.invariant.5
    (subst (λ (h : Heard). IsUnfitBehind c.loop-answer.receiver.purpose h [] rx.received rx.closed offset) c.loop-answer.invariant.6 (c.in-Err.ensures.bad shown offset e))

pub loop-answer-preserved : goal.loop-answer-preserved
loop-answer-preserved g c =
    let told = (g.L.Linker.links c.args.links.now).told in
    let v = views g.L.Tx.LinkTx.sending g.L.Rx.LinkRx.receiving c.args.ends.now in
    let w = views g.L.Tx.LinkTx.sending g.L.Rx.LinkRx.receiving c.loop-answer.ends in
    let u = views g.L.Tx.LinkTx.sending g.L.Rx.LinkRx.receiving c.answer_turn.new.ends in
    let before = c.loop-answer.invariant.1 in (
      c.answer_turn.ensures.lines,
      answering_on told c.args.answer v w u c.loop-answer.outgoing c.answer_turn.new.answer before c.answer_turn.ensures.same c.answer_turn.ensures.down_tx c.answer_turn.ensures.up_rx
          (c.answer_turn.ensures.carries c.args.answer before.carries) (c.in-Ok-None.ensures.uncut (λ e. let no : ⊥ = cc in no)),
      c.in-Ok-None.ensures.closed,
      c.in-Ok-None.ensures.awaits c.in-Ok-None.field-0-is,
      same_in c.args.pool.now c.loop-answer.pool c.answer_turn.new.pool c.loop-answer.invariant.4 c.answer_turn.ensures.pool,
      c.answer_turn.ensures.purpose ∙ c.loop-answer.invariant.5,
      c.in-Ok-None.ensures.still c.in-Ok-None.field-0-is ∙ c.loop-answer.invariant.6,
    )
