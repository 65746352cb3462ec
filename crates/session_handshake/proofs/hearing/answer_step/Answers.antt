use Rattle.std.proofs.Common.{◌≡◌, ◌≢◌, [], ◌∙◌}
use Rattle.session_handshake.proofs.Turns.{hear_less}
use Rattle.session_handshake.proofs.hearing.answer_step.Goals as goal

pub returns-in-Ok-clause-fewer : goal.returns-in-Ok-clause-fewer
returns-in-Ok-clause-fewer g c = λ told tx_told rx_told may.
    let a = g.T.LinkTx.sending c.args.tx.now in
    let b = g.T.LinkTx.sending c.send.new.tx in
    let x = g.R.LinkRx.receiving c.args.rx.now in
    let y = g.R.LinkRx.receiving c.hear_step.new.rx in
    hear_less told c.hear_step.result c.args.answer.now c.send.new.self c.args.receiver.now.incoming c.hear_step.new.receiver.incoming a.patience b.patience x.patience y.patience a.free
    (c.args.receiver.now.incoming.waiting ≡ [] → x.unread ≢ [])
    c.send.ensures.fewer
    (λ t. c.in-Ok.ensures.moves (tx_told ∙ t))
    (λ n. c.in-Ok.ensures.tires (tx_told ∙ n))
    (λ t. c.hear_step.ensures.moves (rx_told ∙ t))
    c.hear_step.ensures.fewer
    (λ n. c.hear_step.ensures.tires (rx_told ∙ n))
    may
