use Rattle.std.proofs.Common.{◌≡◌, ◌⊎◌, ℕ, [], ◌∷◌, Err, List, refl, sym, ap, subst, ◌∙◌, arith}
use Rattle.gvn_model.specs.Entries.{history_value}
use Rattle.ship_defs.specs.Hearing.{Purpose, unbegun}
use Rattle.ship_defs.specs.Greeting.{GreetsWith, IsBadToPrimary}
use Rattle.receiver_server.specs.Hearings.{purpose_value}
use Rattle.receiver_server.specs.Answers.{answer_frame}
use Rattle.receiver_server.specs.Listenings.{IsHearing}
use Rattle.session_handshake.specs.Exchanges.{views, cuts_of, HasBadAnswer}
use Rattle.session_handshake.specs.Connections.{past_of_views}
use Rattle.session_handshake.specs.declared.connection.GreetError.TheVariants.{Cut}
use Rattle.session_handshake.proofs.Greets.{is_open, answer_is, bad_over, bad_is, greeted_with, begun_order, given_back, not_cut, was_one}
use Rattle.session_handshake.proofs.connection.greet.Goals as goal

pub talk-requires-clause-begun : goal.talk-requires-clause-begun
talk-requires-clause-begun g c κs within = (g.L.Linker.links c.args.links.now, c.args.session, c.in-Ok-connect.ensures.begun)

pub returns-in-Ok-talk-clause-unput : goal.returns-in-Ok-talk-clause-unput
returns-in-Ok-talk-clause-unput g c = λ shown. (c.in-Ok-talk.ensures.heard.place (c.in-Ok-connect.ensures.begun.made.shown ∙ shown)).0

pub returns-in-Ok-talk-clause-open : goal.returns-in-Ok-talk-clause-open
returns-in-Ok-talk-clause-open g c =
    let v = views g.L.Tx.LinkTx.sending g.L.Rx.LinkRx.receiving c.in-Ok-connect.ends in
    let w = views g.L.Tx.LinkTx.sending g.L.Rx.LinkRx.receiving c.talk.new.ends in
    let u = views g.L.Tx.LinkTx.sending g.L.Rx.LinkRx.receiving c.beside.new.ends in
    let asked = c.in-Ok-talk.ensures.asks in
    let answered = c.in-Ok-talk.ensures.answered.1 in
    is_open (g.L.Linker.links c.args.links.now) (g.L.Linker.links c.connect.new.links) c.args.session v w u c.in-Ok-connect.ensures.begun c.talk.ensures.same c.beside.ensures.up_tx c.beside.ensures.up_rx c.beside.ensures.down_tx c.beside.ensures.down_rx
    (c.in-Ok-talk.ensures.uncut (λ e. let no : ⊥ = cc in no)) answered.closed c.in-Ok-talk.ensures.closed (λ t. ((answered.carries.going t).0, (answered.carries.going t).1, (asked.carries.going t).0))

pub returns-in-Ok-talk-clause-greeted : goal.returns-in-Ok-talk-clause-greeted
returns-in-Ok-talk-clause-greeted g c = λ shown.
    let answered = c.in-Ok-talk.ensures.answered in
    let one = greeted_with (history_value c.args.theirs.now) (g.L.Rx.LinkRx.receiving c.talk.new.ends.up_rx).received (answer_frame answered.0) (answered.1.greeted (c.in-Ok-connect.ensures.begun.made.shown ∙ shown)) in
    (one.0, subst (λ (l : List ℕ). GreetsWith l one.0) (sym c.beside.ensures.up_rx.received) one.1)

pub returns-in-Ok-talk-clause-hears : goal.returns-in-Ok-talk-clause-hears
returns-in-Ok-talk-clause-hears g c = λ shown.
    subst (λ (l : List ℕ). IsHearing (unbegun (history_value c.args.mine.now)) c.talk.new.hearing.receiver l [] (answer_frame c.in-Ok-talk.answer ∷ [])) (sym c.beside.ensures.down_rx.received)
    (c.in-Ok-talk.ensures.heard.hears (c.in-Ok-connect.ensures.begun.made.shown ∙ shown))

pub returns-in-Ok-talk-clause-hello : goal.returns-in-Ok-talk-clause-hello
returns-in-Ok-talk-clause-hello g c = λ told.
    let b = g.L.Linker.links c.connect.new.links in
    let t = c.in-Ok-connect.ensures.begun.made.told ∙ told in
    let w = views g.L.Tx.LinkTx.sending g.L.Rx.LinkRx.receiving c.talk.new.ends in
    let u = views g.L.Tx.LinkTx.sending g.L.Rx.LinkRx.receiving c.beside.new.ends in
    (answer_is (history_value c.args.theirs.now) (history_value c.args.mine.now) c.args.name.now b.told b.shown w u (unbegun (history_value c.args.mine.now)) c.talk.new.hearing.receiver _ _ c.in-Ok-talk.answer c.in-Ok-talk.ensures.answered.0 c.requires.few
    t (g.met.L.Linker.lawful c.connect.new.links t) c.in-Ok-talk.ensures.asks c.in-Ok-talk.ensures.answered.1 c.in-Ok-talk.ensures.heard c.beside.ensures.up_tx c.beside.ensures.up_rx c.beside.ensures.down_tx c.beside.ensures.down_rx
    (c.beside.ensures.from_primary t) (c.beside.ensures.to_primary t)).0

pub returns-in-Ok-talk-clause-answer : goal.returns-in-Ok-talk-clause-answer
returns-in-Ok-talk-clause-answer g c = λ told.
    let b = g.L.Linker.links c.connect.new.links in
    let t = c.in-Ok-connect.ensures.begun.made.told ∙ told in
    let w = views g.L.Tx.LinkTx.sending g.L.Rx.LinkRx.receiving c.talk.new.ends in
    let u = views g.L.Tx.LinkTx.sending g.L.Rx.LinkRx.receiving c.beside.new.ends in
    (answer_is (history_value c.args.theirs.now) (history_value c.args.mine.now) c.args.name.now b.told b.shown w u (unbegun (history_value c.args.mine.now)) c.talk.new.hearing.receiver _ _ c.in-Ok-talk.answer c.in-Ok-talk.ensures.answered.0 c.requires.few
    t (g.met.L.Linker.lawful c.connect.new.links t) c.in-Ok-talk.ensures.asks c.in-Ok-talk.ensures.answered.1 c.in-Ok-talk.ensures.heard c.beside.ensures.up_tx c.beside.ensures.up_rx c.beside.ensures.down_tx c.beside.ensures.down_rx
    (c.beside.ensures.from_primary t) (c.beside.ensures.to_primary t)).1

pub returns-in-Ok-talk-clause-sent : goal.returns-in-Ok-talk-clause-sent
returns-in-Ok-talk-clause-sent g c = λ told.
    let b = g.L.Linker.links c.connect.new.links in
    let t = c.in-Ok-connect.ensures.begun.made.told ∙ told in
    let w = views g.L.Tx.LinkTx.sending g.L.Rx.LinkRx.receiving c.talk.new.ends in
    let u = views g.L.Tx.LinkTx.sending g.L.Rx.LinkRx.receiving c.beside.new.ends in
    (answer_is (history_value c.args.theirs.now) (history_value c.args.mine.now) c.args.name.now b.told b.shown w u (unbegun (history_value c.args.mine.now)) c.talk.new.hearing.receiver _ _ c.in-Ok-talk.answer c.in-Ok-talk.ensures.answered.0 c.requires.few
    t (g.met.L.Linker.lawful c.connect.new.links t) c.in-Ok-talk.ensures.asks c.in-Ok-talk.ensures.answered.1 c.in-Ok-talk.ensures.heard c.beside.ensures.up_tx c.beside.ensures.up_rx c.beside.ensures.down_tx c.beside.ensures.down_rx
    (c.beside.ensures.from_primary t) (c.beside.ensures.to_primary t)).2

pub returns-in-Err-talk-clause-cut : goal.returns-in-Err-talk-clause-cut
returns-in-Err-talk-clause-cut g c = λ e.
    let w = views g.L.Tx.LinkTx.sending g.L.Rx.LinkRx.receiving c.talk.new.ends in
    let same : c.in-Err-talk.error ≡ Cut = cc in
    let one : cuts_of w ≡ 1 = c.in-Err-talk.ensures.cut (ap Err same) in (
      past_of_views c.args.session w,
      given_back (g.L.Linker.links c.args.links.now) (g.L.Linker.links c.connect.new.links) (g.L.Linker.links c.settle.new.self) c.args.session w c.in-Ok-connect.ensures.begun.made c.settle.ensures.cuts c.settle.ensures.past (omega (arith, one)) (begun_order (g.L.Linker.links c.args.links.now) (g.L.Linker.links c.connect.new.links) c.args.session (views g.L.Tx.LinkTx.sending g.L.Rx.LinkRx.receiving c.in-Ok-connect.ends) w c.in-Ok-connect.ensures.begun c.talk.ensures.same)
          ((g.met.L.Tx.LinkTx g.world.𝓛 g.world.𝓜 g.world.𝓡 ((λ s x. x), (λ x. x), (λ x. x), λ x. x)).ordered c.talk.new.ends.up_tx, (g.met.L.Rx.LinkRx g.world.𝓛 g.world.𝓜 g.world.𝓡 ((λ s x. x), (λ x. x), (λ x. x), λ x. x)).ordered c.talk.new.ends.up_rx, (g.met.L.Tx.LinkTx g.world.𝓛 g.world.𝓜 g.world.𝓡 ((λ s x. x), (λ x. x), (λ x. x), λ x. x)).ordered c.talk.new.ends.down_tx, (g.met.L.Rx.LinkRx g.world.𝓛 g.world.𝓜 g.world.𝓡 ((λ s x. x), (λ x. x), (λ x. x), λ x. x)).ordered c.talk.new.ends.down_rx),
      was_one c.args.session w one,
    )

pub returns-in-Err-talk-clause-bad : goal.returns-in-Err-talk-clause-bad
returns-in-Err-talk-clause-bad g c = λ offset e.
    let b = g.L.Linker.links c.connect.new.links in
    let theirs = history_value c.args.theirs.now in
    let mine = history_value c.args.mine.now in
    let w = views g.L.Tx.LinkTx.sending g.L.Rx.LinkRx.receiving c.talk.new.ends in
    let zero : cuts_of w ≡ 0 = c.in-Err-talk.ensures.uncut (λ x. let no : ⊥ = cc in no) in
    let p = past_of_views c.args.session w in (
      p,
      given_back (g.L.Linker.links c.args.links.now) b (g.L.Linker.links c.settle.new.self) c.args.session w c.in-Ok-connect.ensures.begun.made c.settle.ensures.cuts c.settle.ensures.past (omega (arith, zero)) (begun_order (g.L.Linker.links c.args.links.now) (g.L.Linker.links c.connect.new.links) c.args.session (views g.L.Tx.LinkTx.sending g.L.Rx.LinkRx.receiving c.in-Ok-connect.ends) w c.in-Ok-connect.ensures.begun c.talk.ensures.same)
          ((g.met.L.Tx.LinkTx g.world.𝓛 g.world.𝓜 g.world.𝓡 ((λ s x. x), (λ x. x), (λ x. x), λ x. x)).ordered c.talk.new.ends.up_tx, (g.met.L.Rx.LinkRx g.world.𝓛 g.world.𝓜 g.world.𝓡 ((λ s x. x), (λ x. x), (λ x. x), λ x. x)).ordered c.talk.new.ends.up_rx, (g.met.L.Tx.LinkTx g.world.𝓛 g.world.𝓜 g.world.𝓡 ((λ s x. x), (λ x. x), (λ x. x), λ x. x)).ordered c.talk.new.ends.down_tx, (g.met.L.Rx.LinkRx g.world.𝓛 g.world.𝓜 g.world.𝓡 ((λ s x. x), (λ x. x), (λ x. x), λ x. x)).ordered c.talk.new.ends.down_rx),
      not_cut c.args.session w zero,
      λ shown. bad_over theirs mine b.told b.shown (purpose_value c.args.purpose) w p offset refl refl refl refl
          (subst (λ (q : Purpose). IsBadToPrimary w.up_rx.received w.up_rx.closed offset ⊎ HasBadAnswer theirs b.told b.shown q (unbegun mine) w offset) c.in-Ok.ensures.purpose ((c.in-Err-talk.ensures.bad offset e).1 (c.in-Ok-connect.ensures.begun.made.shown ∙ shown))),
    )

pub returns-in-Err-talk-clause-bad_told : goal.returns-in-Err-talk-clause-bad_told
returns-in-Err-talk-clause-bad_told g c = λ told offset e.
    let b = g.L.Linker.links c.connect.new.links in
    let t = c.in-Ok-connect.ensures.begun.made.told ∙ told in
    let y = g.met.L.Linker.lawful c.connect.new.links t in
    let w = views g.L.Tx.LinkTx.sending g.L.Rx.LinkRx.receiving c.talk.new.ends in
    let bad = c.in-Err-talk.ensures.bad offset e in
    bad_is (history_value c.args.theirs.now) (history_value c.args.mine.now) c.args.name.now b.told b.shown c.in-Ok.hearing.receiver.purpose w offset c.requires.few t y bad.0 (c.settle.ensures.from_primary t) (c.settle.ensures.to_primary t) (bad.1 y)

pub returns-in-Err-talk-clause-memory : goal.returns-in-Err-talk-clause-memory
returns-in-Err-talk-clause-memory g c = λ e.
    let w = views g.L.Tx.LinkTx.sending g.L.Rx.LinkRx.receiving c.talk.new.ends in
    let zero : cuts_of w ≡ 0 = c.in-Err-talk.ensures.uncut (λ x. let no : ⊥ = cc in no) in
    let made = given_back (g.L.Linker.links c.args.links.now) (g.L.Linker.links c.connect.new.links) (g.L.Linker.links c.settle.new.self) c.args.session w c.in-Ok-connect.ensures.begun.made c.settle.ensures.cuts c.settle.ensures.past (omega (arith, zero)) (begun_order (g.L.Linker.links c.args.links.now) (g.L.Linker.links c.connect.new.links) c.args.session (views g.L.Tx.LinkTx.sending g.L.Rx.LinkRx.receiving c.in-Ok-connect.ends) w c.in-Ok-connect.ensures.begun c.talk.ensures.same)
    ((g.met.L.Tx.LinkTx g.world.𝓛 g.world.𝓜 g.world.𝓡 ((λ s x. x), (λ x. x), (λ x. x), λ x. x)).ordered c.talk.new.ends.up_tx, (g.met.L.Rx.LinkRx g.world.𝓛 g.world.𝓜 g.world.𝓡 ((λ s x. x), (λ x. x), (λ x. x), λ x. x)).ordered c.talk.new.ends.up_rx, (g.met.L.Tx.LinkTx g.world.𝓛 g.world.𝓜 g.world.𝓡 ((λ s x. x), (λ x. x), (λ x. x), λ x. x)).ordered c.talk.new.ends.down_tx, (g.met.L.Rx.LinkRx g.world.𝓛 g.world.𝓜 g.world.𝓡 ((λ s x. x), (λ x. x), (λ x. x), λ x. x)).ordered c.talk.new.ends.down_rx) in
    (past_of_views c.args.session w ∷ [], made, (not_cut c.args.session w zero, tt), omega arith)
