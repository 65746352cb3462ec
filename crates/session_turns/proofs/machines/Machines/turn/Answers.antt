use Rattle.std.proofs.Common.{◌≡◌, IfOk, List, ℕ, ◌<◌, sym, subst, ◌∙◌}
use Rattle.recv_pool.specs.Pools.{put_in, taken}
use Rattle.session_turns.specs.Turns.{HasFollowed, Comes}
use Rattle.session_turns.specs.declared.machines.Turned.TheVariants.{Cut}
use Rattle.session_turns.proofs.Progress.{on_weaker, not_looked, nor_looked, moved_looked, sent_looked}
use Rattle.session_turns.proofs.Cuts.{looked_cuts}
use Rattle.session_turns.proofs.machines.Machines.turn.Goals as goal

pub returns-clause-down : goal.returns-clause-down
returns-clause-down g c = (not_looked (g.L.Tx.LinkTx.sending c.args.ends.now.down_tx), nor_looked (g.L.Rx.LinkRx.receiving c.args.ends.now.up_rx))

pub returns-clause-comes : goal.returns-clause-comes
returns-clause-comes g c = λ shown begun h.
    let m = c.step-turned.new.self in
    subst (λ (l : List ℕ). Comes c.step-turned.result begun m.receiver l (put_in m.into) (taken m.out) (g.S.EntrySink.copy c.step-turned.new.site))
    (sym c.look.ensures.rx.received) (c.step-turned.ensures.comes shown begun h)

pub returns-clause-whole : goal.returns-clause-whole
returns-clause-whole g c = λ shown uncut begun h.
    let m = c.step-turned.new.self in
    subst (λ (l : List ℕ). IfOk c.step-turned.result (λ t. t ≡ Cut → HasFollowed begun m.receiver l (put_in m.into) (taken m.out) (g.S.EntrySink.copy c.step-turned.new.site)))
    (sym c.look.ensures.rx.received) (c.step-turned.ensures.whole shown uncut begun h)

pub returns-clause-hears : goal.returns-clause-hears
returns-clause-hears g c = λ pool.
    on_weaker c.step-turned.result _ _ (moved_looked c.args.self.now.receiver c.step-turned.new.self.receiver _ _ _ c.look.ensures.rx.patience c.look.ensures.rx.received) (c.step-turned.ensures.hears pool)

pub returns-clause-moves : goal.returns-clause-moves
returns-clause-moves g c = λ can pool.
    let sending = g.L.Tx.LinkTx.sending in
    on_weaker c.step-turned.result _ _ (sent_looked c.args.self.now.receiver c.step-turned.new.self.receiver _ _ _ (sending c.args.ends.now.up_tx) (sending c.step-turned.new.tx) (sending c.look.new.tx) c.look.ensures.rx.patience c.look.ensures.tx.sent c.look.ensures.tx.finished) (c.step-turned.ensures.moves can pool)

pub returns-clause-stays : goal.returns-clause-stays
returns-clause-stays g c = λ told can. record {
  told = (c.look.ensures.tx.same.told ∙ (c.step-turned.ensures.same_tx.told ∙ can.told.0), c.look.ensures.rx.same.told ∙ (c.step-turned.ensures.same_rx.told ∙ can.told.1));
  know = c.look.ensures.all told;
  places = subst (λ (n : ℕ). 0 < n) (sym (c.look.ensures.tx.same.places ∙ c.step-turned.ensures.same_tx.places)) can.places;
  gives = c.step-turned.ensures.gives can.told.0 can.gives;
  failed = λ f. c.look.ensures.tx.finished ∙ c.step-turned.ensures.failed can.told.0 can.failed f;
}

pub returns-clause-cuts : goal.returns-clause-cuts
returns-clause-cuts g c = λ pool has.
    let sending = g.L.Tx.LinkTx.sending in
    let receiving = g.L.Rx.LinkRx.receiving in
    looked_cuts c.step-turned.result c.step-turned.new.self.cut (sending c.step-turned.new.tx) (sending c.look.new.tx) (receiving c.step-turned.new.rx) (receiving c.look.new.rx)
    c.look.ensures.tx.cuts c.look.ensures.rx.cuts (c.step-turned.ensures.cuts pool has)
