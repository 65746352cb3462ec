use Rattle.session_handshake.specs.Exchanges.{views}
use Rattle.session_handshake.proofs.Turns.{asking_on}
use Rattle.session_handshake.proofs.asking.ask.Goals as goal

pub returns-in-Ok-Some-clause-carries : goal.returns-in-Ok-Some-clause-carries
returns-in-Ok-Some-clause-carries g c = (c.hello_turn.new.hello, c.hello_turn.ensures.carries c.args.hello c.loop-answer.invariant.1.carries)

pub returns-in-Err-clause-carries : goal.returns-in-Err-clause-carries
returns-in-Err-clause-carries g c = (c.hello_turn.new.hello, c.hello_turn.ensures.carries c.args.hello c.loop-answer.invariant.1.carries)

pub loop-answer-preserved : goal.loop-answer-preserved
loop-answer-preserved g c =
    let told = (g.L.Linker.links c.args.links.now).told in
    let shown = (g.L.Linker.links c.args.links.now).shown in
    let v = views g.L.Tx.LinkTx.sending g.L.Rx.LinkRx.receiving c.args.ends.now in
    let w = views g.L.Tx.LinkTx.sending g.L.Rx.LinkRx.receiving c.loop-answer.ends in
    let u = views g.L.Tx.LinkTx.sending g.L.Rx.LinkRx.receiving c.hello_turn.new.ends in
    let before = c.loop-answer.invariant.1 in (
      c.hello_turn.ensures.lines,
      asking_on told shown c.args.hello v w u c.loop-answer.outgoing c.loop-answer.greeter.frames.rest c.hello_turn.new.hello c.hello_turn.new.greeter.frames.rest before c.hello_turn.ensures.same c.hello_turn.ensures.up_tx
          c.hello_turn.ensures.down_rx (c.hello_turn.ensures.carries c.args.hello before.carries) (c.in-Ok-None.ensures.gets c.in-Ok-None.field-0-is) (c.in-Ok-None.ensures.uncut (λ e. let no : ⊥ = cc in no)),
      c.in-Ok-None.ensures.awaits c.in-Ok-None.field-0-is,
    )
