use Rattle.std.proofs.Common.{◌≡◌, ◌<◌, [], ◌∷◌, ◌++◌, Err, refl, sym, ap, subst, ◌∙◌, arith}
use Rattle.gvn_model.specs.Entries.{history_value}
use Rattle.ship_defs.specs.Hearing.{Asks, unbegun}
use Rattle.ship_defs.specs.Greeting.{IsAnswer, carried}
use Rattle.receiver_server.specs.declared.step.Handshake.{Handshake}
use Rattle.receiver_server.specs.Answers.{answer_frame}
use Rattle.session_handshake.specs.Exchanges.{views}
use Rattle.session_handshake.specs.Connections.{past_of_views, IsAnsweredOver}
use Rattle.session_handshake.proofs.Made.{made_none, made_on, count_push, length_push}
use Rattle.session_handshake.proofs.Greets.{not_cut, over_of, ends_answered}
use Rattle.session_handshake.proofs.Sessions.{made_since, made_all, three_at_most, no_link_cut, met_answer, met_bad, four_cut, in_turn_since, one_more_since, as_many_since}
use Rattle.session_handshake.proofs.session.handshake.Goals as goal

pub loop-cuts-init : goal.loop-cuts-init
loop-cuts-init g c = ([], made_none (g.L.Linker.links c.args.links.now) c.args.session, refl, refl, omega arith)

pub loop-cuts-preserved : goal.loop-cuts-preserved
loop-cuts-preserved g c =
    let inv = c.loop-cuts.invariant in
    let cut = c.in-Err-Cut.ensures.cut (ap Err c.in-Err-Cut.field-0-is) in
    (inv.0 ++ cut.0 ∷ [], made_on (g.L.Linker.links c.args.links.now) (g.L.Linker.links c.loop-cuts.links) (g.L.Linker.links c.greet.new.links) c.args.session inv.0 (cut.0 ∷ []) inv.1 cut.1, count_push inv.0 cut.0 c.loop-cuts.cuts inv.2 cut.2, length_push inv.0 cut.0 c.loop-cuts.cuts inv.3, omega arith)

pub settled-requires-clause-open : goal.settled-requires-clause-open
settled-requires-clause-open g c κs within = (g.L.Linker.links c.loop-cuts.links, c.in-Ok.ensures.open)

pub returns-in-Ok-clause-made : goal.returns-in-Ok-clause-made
returns-in-Ok-clause-made g c =
    let m = g.L.Linker.links c.loop-cuts.links in
    let v = views g.L.Tx.LinkTx.sending g.L.Rx.LinkRx.receiving c.in-Ok.greeted.ends in
    let inv = c.loop-cuts.invariant in
    let few : c.loop-cuts.cuts < 4 = omega arith in
    made_all (g.L.Linker.links c.args.links.now) m (g.L.Linker.links c.settled.new.links) c.args.session inv.0 (past_of_views c.args.session v ∷ []) c.loop-cuts.cuts inv.1 (c.settled.ensures.made m c.in-Ok.ensures.open) inv.2 few
    (not_cut c.args.session v c.in-Ok.ensures.open.uncut, tt)

pub returns-in-Ok-clause-link_cut : goal.returns-in-Ok-clause-link_cut
returns-in-Ok-clause-link_cut g c =
    let m = g.L.Linker.links c.loop-cuts.links in
    let v = views g.L.Tx.LinkTx.sending g.L.Rx.LinkRx.receiving c.in-Ok.greeted.ends in
    let inv = c.loop-cuts.invariant in
    let few : c.loop-cuts.cuts < 4 = omega arith in
    no_link_cut (g.L.Linker.links c.args.links.now) m (g.L.Linker.links c.settled.new.links) c.args.session inv.0 (past_of_views c.args.session v ∷ []) c.loop-cuts.cuts inv.1 (c.settled.ensures.made m c.in-Ok.ensures.open) inv.2 few
    (not_cut c.args.session v c.in-Ok.ensures.open.uncut, tt) _ (λ e. let no : ⊥ = cc in no)

pub returns-in-Ok-clause-met : goal.returns-in-Ok-clause-met
returns-in-Ok-clause-met g c =
    let m = g.L.Linker.links c.loop-cuts.links in
    let mine = history_value c.args.mine.now in
    let v = views g.L.Tx.LinkTx.sending g.L.Rx.LinkRx.receiving c.in-Ok.greeted.ends in
    let p = past_of_views c.args.session v in
    let s = c.in-Ok.greeted.hearing.receiver in
    let inv = c.loop-cuts.invariant in
    let few : c.loop-cuts.cuts < 4 = omega arith in
    let over = over_of s (unbegun mine) c.in-Ok.greeted.answer c.in-Ok.ensures.heard in
    met_answer (g.L.Linker.links c.args.links.now) m (g.L.Linker.links c.settled.new.links) c.args.session inv.0 p c.loop-cuts.cuts inv.1 (c.settled.ensures.made m c.in-Ok.ensures.open) inv.2 few
    (not_cut c.args.session v c.in-Ok.ensures.open.uncut) (g.L.Linker.links c.args.links.now).shown mine c.settled.result
    (λ shown.
    let t = inv.1.shown ∙ shown in
    subst (λ (h : Handshake). IsAnsweredOver Asks mine p (answer_frame h)) (sym c.settled.ensures.answer)
    (c.in-Ok.ensures.greeted t, ends_answered Asks mine s v.down_rx.received c.in-Ok.greeted.answer c.in-Ok.ensures.purpose over (c.in-Ok.ensures.over over) (c.in-Ok.ensures.hears t)))

pub returns-in-Ok-clause-answer : goal.returns-in-Ok-clause-answer
returns-in-Ok-clause-answer g c = λ told.
    subst (λ (h : Handshake). IsAnswer (history_value c.args.theirs.now) (carried (history_value c.args.mine.now)) (answer_frame h)) (sym c.settled.ensures.answer) (c.in-Ok.ensures.answer (c.loop-cuts.invariant.1.told ∙ told))

pub returns-in-Ok-clause-hello : goal.returns-in-Ok-clause-hello
returns-in-Ok-clause-hello g c = λ told. c.in-Ok.ensures.hello (c.loop-cuts.invariant.1.told ∙ told)

pub returns-in-Err-BadFrame-clause-made : goal.returns-in-Err-BadFrame-clause-made
returns-in-Err-BadFrame-clause-made g c =
    let inv = c.loop-cuts.invariant in
    let bad = c.in-Err-BadFrame.ensures.bad c.in-Err-BadFrame.offset c.in-Err-BadFrame.field-0-is in
    made_all (g.L.Linker.links c.args.links.now) (g.L.Linker.links c.loop-cuts.links) (g.L.Linker.links c.greet.new.links) c.args.session inv.0 (bad.0 ∷ []) c.loop-cuts.cuts inv.1 bad.1 inv.2 (omega arith) (bad.2, tt)

pub returns-in-Err-BadFrame-clause-link_cut : goal.returns-in-Err-BadFrame-clause-link_cut
returns-in-Err-BadFrame-clause-link_cut g c =
    let inv = c.loop-cuts.invariant in
    let bad = c.in-Err-BadFrame.ensures.bad c.in-Err-BadFrame.offset c.in-Err-BadFrame.field-0-is in
    no_link_cut (g.L.Linker.links c.args.links.now) (g.L.Linker.links c.loop-cuts.links) (g.L.Linker.links c.greet.new.links) c.args.session inv.0 (bad.0 ∷ []) c.loop-cuts.cuts inv.1 bad.1 inv.2 (omega arith) (bad.2, tt) _ (λ e. let no : ⊥ = cc in no)

pub returns-in-Err-BadFrame-clause-met : goal.returns-in-Err-BadFrame-clause-met
returns-in-Err-BadFrame-clause-met g c =
    let inv = c.loop-cuts.invariant in
    let bad = c.in-Err-BadFrame.ensures.bad c.in-Err-BadFrame.offset c.in-Err-BadFrame.field-0-is in
    met_bad (g.L.Linker.links c.args.links.now) (g.L.Linker.links c.loop-cuts.links) (g.L.Linker.links c.greet.new.links) c.args.session inv.0 bad.0 c.loop-cuts.cuts inv.1 bad.1 inv.2 (omega arith) bad.2 (g.L.Linker.links c.args.links.now).shown (history_value c.args.mine.now)
    c.in-Err-BadFrame.offset (λ shown. bad.3 (inv.1.shown ∙ shown))

pub returns-in-Err-BadFrame-clause-bad_told : goal.returns-in-Err-BadFrame-clause-bad_told
returns-in-Err-BadFrame-clause-bad_told g c = λ told offset e.
    let there = c.in-Err-BadFrame.ensures.bad_told (c.loop-cuts.invariant.1.told ∙ told) c.in-Err-BadFrame.offset c.in-Err-BadFrame.field-0-is in
    let same : c.in-Err-BadFrame.offset ≡ offset = cc in
    (sym same ∙ there.0, there.1)

pub returns-in-Err-NoMemory-clause-made : goal.returns-in-Err-NoMemory-clause-made
returns-in-Err-NoMemory-clause-made g c =
    let inv = c.loop-cuts.invariant in
    let more = c.in-Err-NoMemory.ensures.memory (ap Err c.in-Err-NoMemory.field-0-is) in
    made_all (g.L.Linker.links c.args.links.now) (g.L.Linker.links c.loop-cuts.links) (g.L.Linker.links c.greet.new.links) c.args.session inv.0 more.0 c.loop-cuts.cuts inv.1 more.1 inv.2 (omega arith) more.2

pub returns-in-Err-NoMemory-clause-met : goal.returns-in-Err-NoMemory-clause-met
returns-in-Err-NoMemory-clause-met g c =
    let inv = c.loop-cuts.invariant in
    let more = c.in-Err-NoMemory.ensures.memory (ap Err c.in-Err-NoMemory.field-0-is) in
    three_at_most (g.L.Linker.links c.args.links.now) (g.L.Linker.links c.loop-cuts.links) (g.L.Linker.links c.greet.new.links) c.args.session inv.0 more.0 c.loop-cuts.cuts inv.1 more.1 inv.2 (omega arith) more.2

pub returns-in-Err-NoMemory-clause-link_cut : goal.returns-in-Err-NoMemory-clause-link_cut
returns-in-Err-NoMemory-clause-link_cut g c =
    let inv = c.loop-cuts.invariant in
    let more = c.in-Err-NoMemory.ensures.memory (ap Err c.in-Err-NoMemory.field-0-is) in
    no_link_cut (g.L.Linker.links c.args.links.now) (g.L.Linker.links c.loop-cuts.links) (g.L.Linker.links c.greet.new.links) c.args.session inv.0 more.0 c.loop-cuts.cuts inv.1 more.1 inv.2 (omega arith) more.2 _ (λ e. let no : ⊥ = cc in no)

pub returns-clause-made : goal.returns-clause-made
returns-clause-made g c = made_since (g.L.Linker.links c.args.links.now) (g.L.Linker.links c.loop-cuts.links) c.args.session c.loop-cuts.invariant.0 c.loop-cuts.invariant.1

pub returns-clause-met : goal.returns-clause-met
returns-clause-met g c =
    let inv = c.loop-cuts.invariant in
    four_cut (g.L.Linker.links c.args.links.now) (g.L.Linker.links c.loop-cuts.links) c.args.session inv.0 inv.1 (omega arith)

pub returns-clause-link_cut : goal.returns-clause-link_cut
returns-clause-link_cut g c =
    let inv = c.loop-cuts.invariant in
    (λ _. four_cut (g.L.Linker.links c.args.links.now) (g.L.Linker.links c.loop-cuts.links) c.args.session inv.0 inv.1 (omega arith), λ _. refl)

pub returns-in-Ok-clause-in_turn : goal.returns-in-Ok-clause-in_turn
returns-in-Ok-clause-in_turn g c =
    let m = g.L.Linker.links c.loop-cuts.links in
    let v = views g.L.Tx.LinkTx.sending g.L.Rx.LinkRx.receiving c.in-Ok.greeted.ends in
    let inv = c.loop-cuts.invariant in
    in_turn_since (g.L.Linker.links c.args.links.now) m (g.L.Linker.links c.settled.new.links) c.args.session inv.0 (past_of_views c.args.session v ∷ []) inv.1 (c.settled.ensures.made m c.in-Ok.ensures.open) (inv.3 ∙ sym inv.2) (omega arith)

pub returns-in-Ok-clause-answered : goal.returns-in-Ok-clause-answered
returns-in-Ok-clause-answered g c =
    let m = g.L.Linker.links c.loop-cuts.links in
    let v = views g.L.Tx.LinkTx.sending g.L.Rx.LinkRx.receiving c.in-Ok.greeted.ends in
    let inv = c.loop-cuts.invariant in
    one_more_since (g.L.Linker.links c.args.links.now) m (g.L.Linker.links c.settled.new.links) c.args.session inv.0 (past_of_views c.args.session v) inv.1 (c.settled.ensures.made m c.in-Ok.ensures.open) (inv.3 ∙ sym inv.2)
    (not_cut c.args.session v c.in-Ok.ensures.open.uncut)

pub returns-in-Err-BadFrame-clause-in_turn : goal.returns-in-Err-BadFrame-clause-in_turn
returns-in-Err-BadFrame-clause-in_turn g c =
    let inv = c.loop-cuts.invariant in
    let bad = c.in-Err-BadFrame.ensures.bad c.in-Err-BadFrame.offset c.in-Err-BadFrame.field-0-is in
    in_turn_since (g.L.Linker.links c.args.links.now) (g.L.Linker.links c.loop-cuts.links) (g.L.Linker.links c.greet.new.links) c.args.session inv.0 (bad.0 ∷ []) inv.1 bad.1 (inv.3 ∙ sym inv.2) (omega arith)

pub returns-in-Err-BadFrame-clause-bad_last : goal.returns-in-Err-BadFrame-clause-bad_last
returns-in-Err-BadFrame-clause-bad_last g c = λ offset e.
    let inv = c.loop-cuts.invariant in
    let bad = c.in-Err-BadFrame.ensures.bad c.in-Err-BadFrame.offset c.in-Err-BadFrame.field-0-is in
    one_more_since (g.L.Linker.links c.args.links.now) (g.L.Linker.links c.loop-cuts.links) (g.L.Linker.links c.greet.new.links) c.args.session inv.0 bad.0 inv.1 bad.1 (inv.3 ∙ sym inv.2) bad.2

pub returns-in-Err-NoMemory-clause-in_turn : goal.returns-in-Err-NoMemory-clause-in_turn
returns-in-Err-NoMemory-clause-in_turn g c =
    let inv = c.loop-cuts.invariant in
    let more = c.in-Err-NoMemory.ensures.memory (ap Err c.in-Err-NoMemory.field-0-is) in
    in_turn_since (g.L.Linker.links c.args.links.now) (g.L.Linker.links c.loop-cuts.links) (g.L.Linker.links c.greet.new.links) c.args.session inv.0 more.0 inv.1 more.1 (inv.3 ∙ sym inv.2) more.3

pub returns-clause-in_turn : goal.returns-clause-in_turn
returns-clause-in_turn g c =
    let inv = c.loop-cuts.invariant in
    let same = as_many_since (g.L.Linker.links c.args.links.now) (g.L.Linker.links c.loop-cuts.links) c.args.session inv.0 inv.1 (inv.3 ∙ sym inv.2) in
    omega (arith, same)

pub returns-clause-cut_off : goal.returns-clause-cut_off
returns-clause-cut_off g c =
    let inv = c.loop-cuts.invariant in
    let same = as_many_since (g.L.Linker.links c.args.links.now) (g.L.Linker.links c.loop-cuts.links) c.args.session inv.0 inv.1 (inv.3 ∙ sym inv.2) in
    let four = four_cut (g.L.Linker.links c.args.links.now) (g.L.Linker.links c.loop-cuts.links) c.args.session inv.0 inv.1 (omega arith) in
    λ _. same ∙ four
