use Rattle.std.proofs.Common.{inr, [], ◌∷◌, Bool, List, ℕ, sym, subst, ◌∙◌}
use Rattle.gvn_model.specs.Entries.{history_value}
use Rattle.ship_defs.specs.Hearing.{Purpose}
use Rattle.recv_pool.specs.Pools.{put_in, free}
use Rattle.receiver_server.specs.Answers.{answer_frame}
use Rattle.receiver_server.specs.Listenings.{IsUnfitBehind}
use Rattle.session_handshake.specs.Answering.{IsGreetedBy, HasAnswer}
use Rattle.session_handshake.specs.Exchanges.{Carries}
use Rattle.session_handshake.proofs.Told.{greeted_form}
use Rattle.session_handshake.proofs.exchange.exchange.Goals as goal

pub hear-requires-clause-frame : goal.hear-requires-clause-frame
hear-requires-clause-frame g c κs within = λ t.
    let shown = g.met.L.Linker.lawful c.args.links.now t in
    (answer_frame c.in-Ok.answer, greeted_form (history_value c.args.theirs.now) (g.L.Rx.LinkRx.receiving c.ask.new.ends.up_rx).received (answer_frame c.in-Ok.answer) (c.in-Ok.ensures.greeted shown), c.in-Ok-of.ensures ∙ c.answer_bytes.ensures)

pub returns-in-Err-close-clause-bad : goal.returns-in-Err-close-clause-bad
returns-in-Err-close-clause-bad g c = λ shown offset e.
    let theirs = history_value c.args.theirs.now in
    let begun = c.args.receiver.now.heard in
    let rx = g.L.Rx.LinkRx.receiving c.close.new.rx in
    let mid = g.L.Rx.LinkRx.receiving c.hear.new.ends.down_rx in
    let eq = c.hear.ensures.same.down_rx.shown ∙ (c.ask.ensures.same.down_rx.shown ∙ c.requires.to_secondary.shown_is) in
    let has = subst (λ (b : Bool). HasAnswer begun c.hear.new.receiver b mid.received (put_in c.hear.new.pool) (free c.hear.new.pool) c.in-Ok-hear.heard) (sym eq) c.in-Ok-hear.ensures.answered in
    let unfit = c.in-Err-close.ensures.bad offset e (eq ∙ shown) begun c.in-Ok-hear.heard has in
    inr (record {
      answer = c.in-Ok.answer;
      answered = record {
        left = c.hear.ensures.carries.0;
        greeted = λ s. subst (λ (l : List ℕ). IsGreetedBy theirs l (answer_frame c.in-Ok.answer)) (sym c.hear.ensures.up_rx.received) (c.in-Ok.ensures.greeted s);
        carries = subst (λ (l : List ℕ). Carries (g.L.Linker.links c.args.links.now).told l (g.L.Tx.LinkTx.sending c.hear.new.ends.up_tx) c.hear.ensures.carries.0) (c.in-Ok-of.ensures ∙ c.answer_bytes.ensures) c.hear.ensures.carries.1;
        closed = c.hear.ensures.up_rx.closed ∙ c.in-Ok.ensures.closed;
      };
      frames = c.in-Ok-hear.heard ∷ [];
      unfit = subst (λ (p : Purpose). IsUnfitBehind p begun (answer_frame c.in-Ok-hear.heard ∷ []) rx.received rx.closed offset) c.hear.ensures.purpose unfit;
    })
