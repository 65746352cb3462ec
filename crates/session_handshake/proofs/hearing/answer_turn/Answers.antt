use Rattle.std.proofs.Common.{◌≡◌, ◌≢◌, ◌⊎◌, inl, inr, Bool, ◌+◌, ◌<◌, [], ◌∷◌, ℕ, List, Some, None, IsTrue, IfOk, refl, sym, subst, ◌∙◌, arith}
use Rattle.wire_defs.specs.Frames.{Frame, IsFrame, spelled_frame}
use Rattle.wire_defs.specs.Links.{Sending, Receiving, KnowAll}
use Rattle.receiver_server.specs.Listenings.{Listening, IsHearing}
use Rattle.recv_pool.specs.Pools.{put_in, free}
use Rattle.receiver_server.specs.declared.step.Handshake.{Handshake}
use Rattle.session_handshake.specs.Answering.{HasAnswer, left_to_hear}
use Rattle.session_handshake.specs.Exchanges.{Carries}
use Rattle.session_handshake.proofs.Ends.{may_move, carries_looked}
use Rattle.session_handshake.proofs.Hears.{not_answered}
use Rattle.session_handshake.proofs.hearing.answer_turn.Goals as goal

-- where no frame waits, a byte can be sent or is unread
may_hear : (told : Bool) (f : Frame) (left : List ℕ) (s : Sending) (r : Receiving) (l : Listening) → IsFrame f → IsTrue told → Carries told (spelled_frame f) s left → KnowAll s r → l.incoming.fresh ≡ [] → IsHearing l.heard l r.received [] []
    → ((0 < s.free) × (left ≢ [])) ⊎ (l.incoming.waiting ≡ [] → r.unread ≢ [])
may_hear told f left s r l form t carries all fresh hears = elim l.incoming.waiting as (λ w. w ≡ l.incoming.waiting → ((0 < s.free) × (left ≢ [])) ⊎ (l.incoming.waiting ≡ [] → r.unread ≢ [])) [
  | [] ↦ (λ e. elim (may_move told f left s r form t carries all (λ whole. not_answered f l.heard l r.received form (sym e) fresh hears whole)) [ inl x ↦ inl x | inr x ↦ inr (λ _. x) ])
  | w ∷ ws ↦ (λ e. inr (λ none. let no : w ∷ ws ≡ [] = e ∙ none in let wrong : ⊥ = cc in absurd wrong))
] refl

pub returns-clause-fewer : goal.returns-clause-fewer
returns-clause-fewer g c =
    let told = (g.L.Linker.links c.args.links.now).told in
    let tx = g.L.Tx.LinkTx.sending c.args.ends.now.up_tx in
    let rx = g.L.Rx.LinkRx.receiving c.args.ends.now.down_rx in
    let mt = g.L.Tx.LinkTx.sending c.beside.new.ends.up_tx in
    let mr = g.L.Rx.LinkRx.receiving c.beside.new.ends.down_rx in
    let s = c.args.receiver.now in
    let may : IsTrue told → ((0 < mt.free) × (c.args.answer.now ≢ [])) ⊎ (s.incoming.waiting ≡ [] → mr.unread ≢ []) = λ t.
    let fr = c.requires.frame t in
    may_hear told fr.0 c.args.answer.now mt mr s fr.1 t (carries_looked told (spelled_frame fr.0) c.args.answer.now tx mt c.beside.ensures.up_tx fr.2) (c.beside.ensures.from_primary t) c.requires.awaits.fresh
    (subst (λ (l : List ℕ). IsHearing s.heard s l [] []) (sym c.beside.ensures.down_rx.received) (c.requires.awaits.hears (g.met.L.Linker.lawful c.args.links.now t))) in
    let less = c.answer_step.ensures.fewer told (c.beside.ensures.up_tx.same.told ∙ c.requires.told) (c.beside.ensures.down_rx.same.told ∙ c.requires.gets.told_is) may in
    let same : mt.patience + mr.patience ≡ tx.patience + rx.patience = omega (arith, c.beside.ensures.up_tx.patience, c.beside.ensures.down_rx.patience) in
    subst (λ (n : ℕ). IfOk c.answer_step.result (λ o. o ≡ None → left_to_hear told c.answer_step.new.answer c.answer_step.new.receiver.incoming ((g.L.Tx.LinkTx.sending c.answer_step.new.tx).patience + (g.L.Rx.LinkRx.receiving c.answer_step.new.rx).patience)
    < left_to_hear told c.args.answer.now s.incoming n)) same less

pub returns-clause-answered : goal.returns-clause-answered
returns-clause-answered g c =
    let r = c.answer_step.new.receiver in
    let rx = g.L.Rx.LinkRx.receiving c.answer_step.new.rx in
    subst (λ (b : Bool). IfOk c.answer_step.result (λ o. (h : Handshake) → o ≡ Some h → HasAnswer c.args.receiver.now.heard r b rx.received (put_in c.answer_step.new.pool) (free c.answer_step.new.pool) h))
    (c.answer_step.ensures.same_rx.shown ∙ (c.beside.ensures.down_rx.same.shown ∙ c.requires.gets.shown_is)) c.answer_step.ensures.answered
