use Rattle.std.proofs.Common.{◌≡◌, ◌⊎◌, ℕ, List, IsTrue, IfOk, IfErr, sym, subst, ◌∙◌}
use Rattle.gvn_model.specs.Entries.{history_value}
use Rattle.ship_defs.specs.Hearing.{Heard}
use Rattle.ship_defs.specs.Greeting.{greeting, IsBadToPrimary}
use Rattle.recv_pool.specs.Pools.{put_in, free}
use Rattle.session_handshake.specs.Answering.{HasAnswer}
use Rattle.session_handshake.specs.Exchanges.{views, HasAsked, HasBadAnswer, Carries}
use Rattle.session_handshake.specs.declared.connection.GreetError.TheVariants.{BadFrame}
use Rattle.session_handshake.proofs.Tellings.{greeting_form}
use Rattle.session_handshake.proofs.Greets.{carries_new, gets_new, cuts_new, on_ok, with_asked, awaits_any}
use Rattle.session_handshake.proofs.connection.talk.Goals as goal

pub exchange-requires-clause-one : goal.exchange-requires-clause-one
exchange-requires-clause-one g c κs within = let x = c.requires.begun.2 in x.from_primary.connections.0 ∙ sym x.to_primary.connections.0

pub exchange-requires-clause-frame : goal.exchange-requires-clause-frame
exchange-requires-clause-frame g c κs within = (greeting c.args.name.now (history_value c.args.mine.now), greeting_form c.args.name.now (history_value c.args.mine.now) c.requires.name c.requires.few c.requires.form, c.in-Ok.ensures)

pub exchange-requires-clause-carries : goal.exchange-requires-clause-carries
exchange-requires-clause-carries g c κs within = let x = c.requires.begun.2 in carries_new c.requires.begun.0 (g.L.Linker.links c.args.links.now) c.requires.begun.1 _ _ _ _ x.made.told x.to_primary

pub exchange-requires-clause-idle : goal.exchange-requires-clause-idle
exchange-requires-clause-idle g c κs within = let x = c.requires.begun.2 in carries_new c.requires.begun.0 (g.L.Linker.links c.args.links.now) c.requires.begun.1 _ _ _ _ x.made.told x.from_primary

pub exchange-requires-clause-to_primary : goal.exchange-requires-clause-to_primary
exchange-requires-clause-to_primary g c κs within = let x = c.requires.begun.2 in gets_new c.requires.begun.0 (g.L.Linker.links c.args.links.now) c.requires.begun.1 _ _ _ x.made.told x.made.shown x.to_primary

pub exchange-requires-clause-to_secondary : goal.exchange-requires-clause-to_secondary
exchange-requires-clause-to_secondary g c κs within = let x = c.requires.begun.2 in gets_new c.requires.begun.0 (g.L.Linker.links c.args.links.now) c.requires.begun.1 _ _ _ x.made.told x.made.shown x.from_primary

pub exchange-requires-clause-awaits : goal.exchange-requires-clause-awaits
exchange-requires-clause-awaits g c κs within = awaits_any c.args.hearing.now.receiver (put_in c.args.hearing.now.into) (free c.args.hearing.now.into) (g.L.Linker.links c.args.links.now).shown c.requires.awaits

pub exchange-requires-clause-uncut : goal.exchange-requires-clause-uncut
exchange-requires-clause-uncut g c κs within = cuts_new c.requires.begun.0 (g.L.Linker.links c.args.links.now) c.requires.begun.1 (views g.L.Tx.LinkTx.sending g.L.Rx.LinkRx.receiving c.args.ends.now) c.requires.begun.2

pub returns-clause-heard : goal.returns-clause-heard
returns-clause-heard g c =
    subst (λ (b : Heard). IfOk c.exchange.result (λ h. HasAnswer b c.exchange.new.receiver (g.L.Linker.links c.args.links.now).shown (g.L.Rx.LinkRx.receiving c.exchange.new.ends.down_rx).received (put_in c.exchange.new.pool) (free c.exchange.new.pool) h))
    c.requires.unbegun c.exchange.ensures.heard

pub returns-clause-asks : goal.returns-clause-asks
returns-clause-asks g c =
    let hello = greeting c.args.name.now (history_value c.args.mine.now) in
    let told = (g.L.Linker.links c.args.links.now).told in
    let carries = c.exchange.ensures.carries in
    on_ok c.exchange.result _
    (record {
      left = carries.0;
      form = greeting_form c.args.name.now (history_value c.args.mine.now) c.requires.name c.requires.few c.requires.form;
      carries = subst (λ (l : List ℕ). Carries told l (g.L.Tx.LinkTx.sending c.exchange.new.ends.down_tx) carries.0) c.in-Ok.ensures carries.1;
    })

pub returns-clause-bad : goal.returns-clause-bad
returns-clause-bad g c =
    let hello = greeting c.args.name.now (history_value c.args.mine.now) in
    let told = (g.L.Linker.links c.args.links.now).told in
    let shown = (g.L.Linker.links c.args.links.now).shown in
    let v = views g.L.Tx.LinkTx.sending g.L.Rx.LinkRx.receiving c.exchange.new.ends in
    let carries = c.exchange.ensures.carries in
    let asked : HasAsked hello told v = record {
      left = carries.0;
      form = greeting_form c.args.name.now (history_value c.args.mine.now) c.requires.name c.requires.few c.requires.form;
      carries = subst (λ (l : List ℕ). Carries told l v.down_tx carries.0) c.in-Ok.ensures carries.1;
    } in
    subst (λ (b : Heard). IfErr c.exchange.result (λ e. (offset : ℕ) → e ≡ BadFrame offset → HasAsked hello told v × (IsTrue shown → IsBadToPrimary v.up_rx.received v.up_rx.closed offset
    ⊎ HasBadAnswer (history_value c.args.theirs.now) told shown c.args.hearing.now.receiver.purpose b v offset)))
    c.requires.unbegun
    (with_asked c.exchange.result (HasAsked hello told v) (IsTrue shown) (λ offset. IsBadToPrimary v.up_rx.received v.up_rx.closed offset
    ⊎ HasBadAnswer (history_value c.args.theirs.now) told shown c.args.hearing.now.receiver.purpose c.args.hearing.now.receiver.heard v offset) asked c.exchange.ensures.bad)
