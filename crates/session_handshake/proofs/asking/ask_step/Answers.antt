use Rattle.std.proofs.Common.{Option, ◌∙◌}
use Rattle.std.proofs.lemmas.Result.{IfOk-weaker}
use Rattle.receiver_server.specs.declared.step.Handshake.{Handshake}
use Rattle.receiver_server.proofs.Kept.{begins_few}
use Rattle.session_handshake.proofs.Turns.{ask_less}
use Rattle.session_handshake.proofs.asking.ask_step.Goals as goal

pub returns-in-Ok-clause-fewer : goal.returns-in-Ok-clause-fewer
returns-in-Ok-clause-fewer g c = λ told tx_told rx_told may.
    let a = g.T.LinkTx.sending c.args.tx.now in
    let b = g.T.LinkTx.sending c.send.new.tx in
    let x = g.R.LinkRx.receiving c.args.rx.now in
    let y = g.R.LinkRx.receiving c.step.new.rx in
    ask_less told c.step.result c.args.hello.now c.send.new.self c.args.greeter.now.frames.rest c.step.new.self.frames.rest a.patience b.patience x.patience y.patience a.free x.unread
    (IfOk-weaker c.step.result _ _ (λ (o : Option Handshake) w e. begins_few c.step.new.self.frames.rest (w e).begins) c.step.ensures.awaits)
    c.send.ensures.fewer
    (λ t. c.in-Ok.ensures.moves (tx_told ∙ t))
    (λ n. c.in-Ok.ensures.tires (tx_told ∙ n))
    (λ t. c.step.ensures.moves (rx_told ∙ t))
    c.step.ensures.grows
    (λ n. c.step.ensures.tires (rx_told ∙ n))
    may
