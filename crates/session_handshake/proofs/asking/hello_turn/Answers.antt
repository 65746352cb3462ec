use Rattle.std.proofs.Common.{◌≡◌, ◌≢◌, ◌⊎◌, ◌+◌, ◌<◌, [], ℕ, None, IsTrue, IfOk, sym, subst, ◌∙◌, arith}
use Rattle.wire_defs.specs.Frames.{spelled_frame}
use Rattle.session_handshake.specs.Answering.{left_to_ask}
use Rattle.session_handshake.proofs.Ends.{may_move, not_all, carries_looked}
use Rattle.session_handshake.proofs.asking.hello_turn.Goals as goal

pub returns-clause-fewer : goal.returns-clause-fewer
returns-clause-fewer g c =
    let told = (g.L.Linker.links c.args.links.now).told in
    let tx = g.L.Tx.LinkTx.sending c.args.ends.now.down_tx in
    let rx = g.L.Rx.LinkRx.receiving c.args.ends.now.up_rx in
    let mt = g.L.Tx.LinkTx.sending c.beside.new.ends.down_tx in
    let mr = g.L.Rx.LinkRx.receiving c.beside.new.ends.up_rx in
    let f = c.requires.frame.0 in
    let form = c.requires.frame.1 in
    let carries = c.requires.frame.2 in
    let may : IsTrue told → ((0 < mt.free) × (c.args.hello.now ≢ [])) ⊎ (mr.unread ≢ []) = λ t.
    may_move told f c.args.hello.now mt mr form t (carries_looked told (spelled_frame f) c.args.hello.now tx mt c.beside.ensures.down_tx carries) (c.beside.ensures.to_primary t)
    (λ all. not_all f c.args.greeter.now.frames.rest form c.requires.awaits.begins (sym (c.requires.gets.received_is (g.met.L.Linker.lawful c.args.links.now t)) ∙ (sym c.beside.ensures.up_rx.received ∙ all))) in
    let less = c.ask_step.ensures.fewer told (c.beside.ensures.down_tx.same.told ∙ carries.told_is) (c.beside.ensures.up_rx.same.told ∙ c.requires.gets.told_is) may in
    let same : mt.patience + mr.patience ≡ tx.patience + rx.patience = omega (arith, c.beside.ensures.down_tx.patience, c.beside.ensures.up_rx.patience) in
    subst (λ (n : ℕ). IfOk c.ask_step.result (λ o. o ≡ None → left_to_ask told c.ask_step.new.hello c.ask_step.new.greeter.frames.rest ((g.L.Tx.LinkTx.sending c.ask_step.new.tx).patience + (g.L.Rx.LinkRx.receiving c.ask_step.new.rx).patience)
    < left_to_ask told c.args.hello.now c.args.greeter.now.frames.rest n)) same less
