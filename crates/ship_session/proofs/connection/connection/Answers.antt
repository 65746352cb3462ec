use Rattle.std.proofs.Common.{◌≡◌, ℕ, [], ◌∷◌, None, Err, inl, inr, refl, sym, ap, subst, ◌∙◌, arith}
use Rattle.global_defs.specs.Prefix as prefix
use Rattle.lineage_defs.specs.Histories.{IsParted}
use Rattle.wire_defs.specs.Frames.{RollbackFirst}
use Rattle.ship_defs.specs.Hearing.{Ships}
use Rattle.session_handshake.specs.Connections.{IsBadOver}
use Rattle.session_handshake.proofs.Carried.{rolls_back}
use Rattle.gvn_model.specs.Entries.{history_value}
use Rattle.ship_defs.specs.Arrivals.{entries_of}
use Rattle.ship_defs.specs.Greeting.{IsHello, IsAnswer, carried, greeting}
use Rattle.receiver_server.specs.Answers.{answer_frame}
use Rattle.receiver_server.specs.declared.step.Handshake.TheVariants as handshake
use Rattle.update_process.specs.Copies.{history_of}
use Rattle.session_handshake.specs.Exchanges.{views}
use Rattle.session_handshake.specs.Connections.{past_of_views}
use Rattle.session_handshake.proofs.Greets.{open_order, given_back, given_finished, not_cut}
use Rattle.ship_session.proofs.Single.{met_shipped, no_rollback, with_matched, not_common, resumes_at, resumes_matched, rolls, answers_roll}
use Rattle.ship_session.proofs.connection.connection.Goals as goal

pub returns-in-Err-BadFrame-clause-met : goal.returns-in-Err-BadFrame-clause-met
returns-in-Err-BadFrame-clause-met g c =
    let bad = c.in-Err-BadFrame.ensures.bad c.in-Err-BadFrame.offset c.in-Err-BadFrame.field-0-is in
    let mine = history_of (g.S.EntrySink.copy c.args.site.now) in (
      bad.0 ∷ [],
      bad.1,
      (
        bad.0,
        refl,
        bad.2,
        λ e. let no : ⊥ = cc in no,
        λ shown. inl (subst (λ (n : ℕ). IsBadOver Ships mine bad.0 n) (sym c.in-Err-BadFrame.offset-is)
            (subst (λ (h : prefix.History). IsBadOver Ships h bad.0 c.in-Err-BadFrame.offset) c.history.ensures.is (bad.3 shown))),
      ),
    )

pub returns-in-Err-NoMemory-clause-met : goal.returns-in-Err-NoMemory-clause-met
returns-in-Err-NoMemory-clause-met g c =
    let more = c.in-Err-NoMemory.ensures.memory (ap Err c.in-Err-NoMemory.field-0-is) in
    (more.0, more.1, more.3)

pub returns-in-Resume-clause-met : goal.returns-in-Resume-clause-met
returns-in-Resume-clause-met g c =
    let a = g.L.Linker.links c.args.links.now in
    let m = g.L.Linker.links c.greet.new.links in
    let b = g.L.Linker.links c.settle.new.self in
    let u = views g.L.Tx.LinkTx.sending g.L.Rx.LinkRx.receiving c.ship-ended.new.ends in
    let open_ = c.in-Ok.ensures.open in
    let e = c.ship-ended.ensures in (
      past_of_views c.args.session u ∷ [],
      given_back a m b c.args.session u open_.made c.settle.ensures.cuts c.settle.ensures.past e.once
          (open_order a m c.args.session (views g.L.Tx.LinkTx.sending g.L.Rx.LinkRx.receiving c.in-Ok.greeted.ends) u open_ e.same)
          ((g.met.L.Tx.LinkTx g.world.𝓛 g.world.𝓜 g.world.𝓡 ((λ s x. x), (λ x. x), (λ x. x), λ x. x)).ordered c.ship-ended.new.ends.up_tx, (g.met.L.Rx.LinkRx g.world.𝓛 g.world.𝓜 g.world.𝓡 ((λ s x. x), (λ x. x), (λ x. x), λ x. x)).ordered c.ship-ended.new.ends.up_rx, (g.met.L.Tx.LinkTx g.world.𝓛 g.world.𝓜 g.world.𝓡 ((λ s x. x), (λ x. x), (λ x. x), λ x. x)).ordered c.ship-ended.new.ends.down_tx, (g.met.L.Rx.LinkRx g.world.𝓛 g.world.𝓜 g.world.𝓡 ((λ s x. x), (λ x. x), (λ x. x), λ x. x)).ordered c.ship-ended.new.ends.down_rx),
      met_shipped g.row.S-Error.Denot (g.S.EntrySink.copy c.args.site.now) (g.S.EntrySink.copy c.ship-ended.new.site) a.shown c.args.session u c.ship-ended.result e.cut e.uncut e.ends (λ shown. e.ships (open_.made.shown ∙ shown)),
    )

pub returns-in-Resume-clause-grown : goal.returns-in-Resume-clause-grown
returns-in-Resume-clause-grown g c = λ shown. let x = c.ship-ended.ensures.grown (c.in-Ok.ensures.open.made.shown ∙ shown) in (entries_of None x.front, x.sequence)

pub returns-in-Resume-clause-in_order : goal.returns-in-Resume-clause-in_order
returns-in-Resume-clause-in_order g c = λ told all gives p. c.ship-ended.ensures.in_order (c.in-Ok.ensures.open.made.told ∙ told) all gives p

pub returns-in-Resume-clause-answer : goal.returns-in-Resume-clause-answer
returns-in-Resume-clause-answer g c = λ told. no_rollback c.ship-ended.result _ c.ship-ended.ensures.ends

pub returns-in-Resume-clause-parts : goal.returns-in-Resume-clause-parts
returns-in-Resume-clause-parts g c = λ told t common less.
    let theirs = history_value c.args.theirs.now in
    let begun = history_of (g.S.EntrySink.copy c.args.site.now) in
    let arm = c.in-Resume.is in
    let is : c.in-Ok.greeted.answer ≡ handshake.Resume c.in-Resume.field-0 = cc in
    let answer = subst (λ (h : prefix.History). IsAnswer theirs (carried h) (answer_frame c.in-Ok.greeted.answer)) c.history.ensures.is (c.in-Ok.ensures.answer told) in
    absurd (not_common theirs begun t common less (resumes_at theirs begun c.in-Ok.greeted.answer c.in-Resume.field-0 is answer).0)

pub returns-in-RollbackFirst-clause-met : goal.returns-in-RollbackFirst-clause-met
returns-in-RollbackFirst-clause-met g c =
    let a = g.L.Linker.links c.args.links.now in
    let m = g.L.Linker.links c.greet.new.links in
    let b = g.L.Linker.links c.settle-in-RollbackFirst.new.self in
    let s = c.args.session in
    let v = views g.L.Tx.LinkTx.sending g.L.Rx.LinkRx.receiving c.in-Ok.greeted.ends in
    let e = c.in-Ok.ensures in
    let arm = c.in-RollbackFirst.is in
    let is : c.in-Ok.greeted.answer ≡ handshake.RollbackFirst c.in-RollbackFirst.number = cc in (
      past_of_views s v ∷ [],
      given_finished a m b s v (g.L.Tx.LinkTx.sending c.finish.new.self) e.open c.finish.ensures.cuts c.settle-in-RollbackFirst.ensures.cuts c.settle-in-RollbackFirst.ensures.past,
      (
        past_of_views s v,
        refl,
        not_cut s v e.open.uncut,
        λ x. let no : ⊥ = cc in no,
        λ shown. (
          refl,
          rolls (history_of (g.S.EntrySink.copy c.args.site.now)) (history_value c.history.result.now) c.in-Ok.greeted.hearing.receiver (past_of_views s v)
              c.in-Ok.greeted.answer c.in-RollbackFirst.number is c.history.ensures.is e.purpose e.heard e.over (e.hears shown) (e.greeted shown),
        ),
      ),
    )

pub returns-in-RollbackFirst-clause-answer : goal.returns-in-RollbackFirst-clause-answer
returns-in-RollbackFirst-clause-answer g c = λ told n e.
    let theirs = history_value c.args.theirs.now in
    let mine = history_of (g.S.EntrySink.copy c.args.site.now) in
    let arm = c.in-RollbackFirst.is in
    let is : c.in-Ok.greeted.answer ≡ handshake.RollbackFirst c.in-RollbackFirst.number = cc in
    let number : c.in-RollbackFirst.number ≡ n = cc in
    subst (λ (k : ℕ). IsAnswer theirs (carried mine) (RollbackFirst k)) number
    (answers_roll theirs mine (history_value c.history.result.now) c.in-Ok.greeted.answer c.in-RollbackFirst.number is c.history.ensures.is (c.in-Ok.ensures.answer told))

pub returns-in-Resume-clause-taken : goal.returns-in-Resume-clause-taken
returns-in-Resume-clause-taken g c = λ told all gives.
    let theirs = history_value c.args.theirs.now in
    let begun = history_of (g.S.EntrySink.copy c.args.site.now) in
    let arm = c.in-Resume.is in
    let is : c.in-Ok.greeted.answer ≡ handshake.Resume c.in-Resume.field-0 = cc in
    let answer = subst (λ (h : prefix.History). IsAnswer theirs (carried h) (answer_frame c.in-Ok.greeted.answer)) c.history.ensures.is (c.in-Ok.ensures.answer told) in
    let matched = resumes_matched c.args.name.now theirs begun c.in-Ok.greeted.answer c.in-Resume.field-0 is (subst (λ (h : prefix.History). IsHello (greeting c.args.name.now h)) c.history.ensures.is (c.in-Ok.ensures.hello told)) answer in
    let within = matched.whole.in_first in
    let size = gives.size in
    inr (matched, c.ship-ended.ensures.joined (c.in-Ok.ensures.open.made.told ∙ told) all gives (omega (arith, within, size)))

pub returns-in-Resume-clause-taken_all : goal.returns-in-Resume-clause-taken_all
returns-in-Resume-clause-taken_all g c = λ told all gives.
    let theirs = history_value c.args.theirs.now in
    let begun = history_of (g.S.EntrySink.copy c.args.site.now) in
    let arm = c.in-Resume.is in
    let is : c.in-Ok.greeted.answer ≡ handshake.Resume c.in-Resume.field-0 = cc in
    let answer = subst (λ (h : prefix.History). IsAnswer theirs (carried h) (answer_frame c.in-Ok.greeted.answer)) c.history.ensures.is (c.in-Ok.ensures.answer told) in
    let matched = resumes_matched c.args.name.now theirs begun c.in-Ok.greeted.answer c.in-Resume.field-0 is (subst (λ (h : prefix.History). IsHello (greeting c.args.name.now h)) c.history.ensures.is (c.in-Ok.ensures.hello told)) answer in
    let within = matched.whole.in_first in
    let size = gives.size in
    with_matched c.ship-ended.result _ _ matched (c.ship-ended.ensures.joined_all (c.in-Ok.ensures.open.made.told ∙ told) all gives (omega (arith, within, size)))

pub returns-in-Resume-clause-unmatched : goal.returns-in-Resume-clause-unmatched
returns-in-Resume-clause-unmatched g c = λ told no.
    let theirs = history_value c.args.theirs.now in
    let begun = history_of (g.S.EntrySink.copy c.args.site.now) in
    let arm = c.in-Resume.is in
    let is : c.in-Ok.greeted.answer ≡ handshake.Resume c.in-Resume.field-0 = cc in
    let answer = subst (λ (h : prefix.History). IsAnswer theirs (carried h) (answer_frame c.in-Ok.greeted.answer)) c.history.ensures.is (c.in-Ok.ensures.answer told) in
    let hello = subst (λ (h : prefix.History). IsHello (greeting c.args.name.now h)) c.history.ensures.is (c.in-Ok.ensures.hello told) in
    absurd (no (resumes_matched c.args.name.now theirs begun c.in-Ok.greeted.answer c.in-Resume.field-0 is hello answer))

pub returns-in-Resume-clause-rolls_back : goal.returns-in-Resume-clause-rolls_back
returns-in-Resume-clause-rolls_back g c = λ told. no_rollback c.ship-ended.result _ c.ship-ended.ensures.ends

pub returns-in-RollbackFirst-clause-rolls_back : goal.returns-in-RollbackFirst-clause-rolls_back
returns-in-RollbackFirst-clause-rolls_back g c = λ told n e.
    let theirs = history_value c.args.theirs.now in
    let mine = history_of (g.S.EntrySink.copy c.args.site.now) in
    let arm = c.in-RollbackFirst.is in
    let is : c.in-Ok.greeted.answer ≡ handshake.RollbackFirst c.in-RollbackFirst.number = cc in
    let number : c.in-RollbackFirst.number ≡ n = cc in
    let answer = answers_roll theirs mine (history_value c.history.result.now) c.in-Ok.greeted.answer c.in-RollbackFirst.number is c.history.ensures.is (c.in-Ok.ensures.answer told) in
    let hello = subst (λ (h : prefix.History). IsHello (greeting c.args.name.now h)) c.history.ensures.is (c.in-Ok.ensures.hello told) in
    (refl, subst (λ (k : ℕ). IsParted k theirs mine) number (rolls_back c.args.name.now theirs mine c.in-RollbackFirst.number hello answer))
