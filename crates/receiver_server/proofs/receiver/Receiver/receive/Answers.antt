use Rattle.std.proofs.Common.{◌≡◌, ◌≢◌, ℕ, ◌<◌, true, false, [], sym, ap, subst, ◌∙◌, arith}
use Rattle.wire_defs.specs.Frames.{BeginsFrame}
use Rattle.ship_defs.specs.Hearing as ship
use Rattle.receiver_server.specs.Hearings.{purpose_value}
use Rattle.receiver_server.specs.Incomings.{unheard}
use Rattle.receiver_server.specs.Listenings.{Listening, IsHearing, IsUnfitBehind, Does}
use Rattle.receiver_server.specs.declared.step.HearError.TheVariants.{BadFrame}
use Rattle.receiver_server.proofs.Steps.{unfit_bytes, unfit_behind, pulled}
use Rattle.receiver_server.proofs.Pulled.{unheard_is, quiet_of, pulls_heard, pulls_does, pulls_ended, pulls_good, pulls_on, pulls_nothing}
use Rattle.receiver_server.proofs.receiver.Receiver.receive.Goals as goal

pub returns-then-is_bad-clause-bad : goal.returns-then-is_bad-clause-bad
returns-then-is_bad-clause-bad g c = λ offset e shown begun put frames h.
    let s = c.args.self.now in
    let told : BadFrame s.offset ≡ BadFrame offset = sym c.bad_frame.ensures ∙ e in
    let at : s.offset ≡ offset = cc in
    let bad : s.incoming.bad ≡ true = sym (ap (λ (x : Listening). x.incoming.bad) c.self.view_is) ∙ (sym c.is_bad.ensures.is ∙ c.if-is_bad.true) in
    subst (λ (o : ℕ). IsUnfitBehind s.purpose begun frames (g.R.LinkRx.receiving c.args.rx.now).received false o) at (unfit_bytes begun s (g.R.LinkRx.receiving c.args.rx.now).received put frames c.requires.empty bad h)

pub returns-then-has_left-clause-bad : goal.returns-then-has_left-clause-bad
returns-then-has_left-clause-bad g c = λ offset e shown begun put frames h.
    let s = c.args.self.now in
    let told : BadFrame s.offset ≡ BadFrame offset = sym c.bad_frame-then-has_left.ensures ∙ e in
    let at : s.offset ≡ offset = cc in
    let good : s.incoming.bad ≡ false = sym (ap (λ (x : Listening). x.incoming.bad) c.self.view_is) ∙ (sym c.is_bad.ensures.is ∙ c.if-is_bad.false) in
    let over : s.heard.last ≡ ship.Over = sym (ap (λ (x : Listening). x.heard.last) c.self.view_is) ∙ c.is_over.ensures.0 c.if-is_over.true in
    let left : 0 < unheard c.self.inside.inbox = c.has_left.ensures.0 c.if-has_left.true in
    let here : 0 < unheard s.incoming = subst (λ (x : Listening). 0 < unheard x.incoming) c.self.view_is left in
    let is = unheard_is s.incoming c.requires.empty good in
    subst (λ (o : ℕ). IsUnfitBehind s.purpose begun frames (g.R.LinkRx.receiving c.args.rx.now).received false o) at (unfit_behind begun s (g.R.LinkRx.receiving c.args.rx.now).received put frames c.requires.empty good over (omega (arith, is, here)) h)

pub returns-then-is_over-clause-over : goal.returns-then-is_over-clause-over
returns-then-is_over-clause-over g c = λ _.
    let s = c.args.self.now in
    let good : s.incoming.bad ≡ false = sym (ap (λ (x : Listening). x.incoming.bad) c.self.view_is) ∙ (sym c.is_bad.ensures.is ∙ c.if-is_bad.false) in
    let over : s.heard.last ≡ ship.Over = sym (ap (λ (x : Listening). x.heard.last) c.self.view_is) ∙ c.is_over.ensures.0 c.if-is_over.true in
    let no : 0 < unheard s.incoming → ⊥ = λ some. let here = c.has_left.ensures.1 (subst (λ (x : Listening). 0 < unheard x.incoming) (sym c.self.view_is) some) in let wrong : false ≡ true = sym c.if-has_left.false ∙ here in let never : ⊥ = cc in never in
    (quiet_of s c.requires.empty good no, over)

pub returns-clause-heard : goal.returns-clause-heard
returns-clause-heard g c = pulls_heard c.pull.result c.pull.ensures.came.0 c.self.inside.inbox c.pull.new.self c.pull.ensures.came.1

pub returns-clause-hears : goal.returns-clause-hears
returns-clause-hears g c = λ shown begun put frames h.
    let s = c.self.inside in
    let none : s.inbox.waiting ≡ [] = ap (λ (x : Listening). x.incoming.waiting) c.self.view_is ∙ c.requires.empty in
    let good : s.inbox.bad ≡ false = sym c.is_bad.ensures.is ∙ c.if-is_bad.false in
    let view : Listening = record { purpose = purpose_value s.purpose; heard = s.hearer; offset = s.offset; incoming = s.inbox } in
    let before : IsHearing begun view (g.R.LinkRx.receiving c.args.rx.now).received put frames = subst (λ (x : Listening). IsHearing begun x (g.R.LinkRx.receiving c.args.rx.now).received put frames) (sym c.self.view_is) h in
    pulled begun view (g.R.LinkRx.receiving c.args.rx.now).received put frames none good before c.pull.result c.pull.new.self c.pull.ensures.came.0 (g.R.LinkRx.receiving c.pull.new.rx).received c.pull.ensures.came.1 (c.pull.ensures.came.2 shown)

pub returns-clause-does : goal.returns-clause-does
returns-clause-does g c =
    let s = c.self.inside in
    let none : s.inbox.waiting ≡ [] = ap (λ (x : Listening). x.incoming.waiting) c.self.view_is ∙ c.requires.empty in
    let good : s.inbox.bad ≡ false = sym c.is_bad.ensures.is ∙ c.if-is_bad.false in
    let going : s.hearer.last ≢ ship.Over = λ over. let wrong : false ≡ true = sym c.if-is_over.false ∙ c.is_over.ensures.1 over in let never : ⊥ = cc in never in
    let after : Listening = record { purpose = purpose_value s.purpose; heard = s.hearer; offset = s.offset; incoming = c.pull.new.self } in
    let before : Listening = record { purpose = purpose_value s.purpose; heard = s.hearer; offset = s.offset; incoming = s.inbox } in
    subst (λ (x : Listening). Does c.pull.result x after) c.self.view_is (pulls_does c.pull.result c.pull.ensures.came.0 before c.pull.new.self none good going c.pull.ensures.came.1)

pub returns-clause-bad : goal.returns-clause-bad
returns-clause-bad g c = pulls_good _ c.pull.result c.pull.ensures.came.0 c.self.inside.inbox c.pull.new.self c.pull.ensures.came.1

pub returns-clause-over : goal.returns-clause-over
returns-clause-over g c = pulls_on _ c.pull.result c.pull.ensures.came.0 c.self.inside.inbox c.pull.new.self c.pull.ensures.came.1

pub returns-clause-ended : goal.returns-clause-ended
returns-clause-ended g c =
    let s = c.self.inside in
    let none : s.inbox.waiting ≡ [] = ap (λ (x : Listening). x.incoming.waiting) c.self.view_is ∙ c.requires.empty in
    let good : s.inbox.bad ≡ false = sym c.is_bad.ensures.is ∙ c.if-is_bad.false in
    let going : s.hearer.last ≢ ship.Over = λ over. let wrong : false ≡ true = sym c.if-is_over.false ∙ c.is_over.ensures.1 over in let never : ⊥ = cc in never in
    let before : Listening = record { purpose = purpose_value s.purpose; heard = s.hearer; offset = s.offset; incoming = s.inbox } in
    pulls_ended c.pull.result c.pull.ensures.came.0 before c.pull.new.self (g.R.LinkRx.receiving c.args.rx.now).closed (g.R.LinkRx.receiving c.pull.new.rx).closed none good going c.pull.ensures.came.1 c.pull.ensures.closed

pub returns-clause-grows : goal.returns-clause-grows
returns-clause-grows g c = λ shown. (c.pull.ensures.came.0, c.pull.ensures.came.2 shown)

pub returns-then-has_left-clause-rest : goal.returns-then-has_left-clause-rest
returns-then-has_left-clause-rest g c = λ good. subst (λ (x : Listening). BeginsFrame x.incoming.reading.rest) c.self.view_is (c.is_bad.ensures.rest (sym c.is_bad.ensures.is ∙ c.if-is_bad.false))

pub returns-then-is_over-clause-rest : goal.returns-then-is_over-clause-rest
returns-then-is_over-clause-rest g c = λ good. subst (λ (x : Listening). BeginsFrame x.incoming.reading.rest) c.self.view_is (c.is_bad.ensures.rest (sym c.is_bad.ensures.is ∙ c.if-is_bad.false))

pub returns-clause-nothing : goal.returns-clause-nothing
returns-clause-nothing g c = λ shown.
    pulls_nothing c.pull.result c.pull.ensures.came.0 c.self.inside.inbox c.pull.new.self (g.R.LinkRx.receiving c.args.rx.now).received (g.R.LinkRx.receiving c.pull.new.rx).received c.pull.ensures.came.1 (c.pull.ensures.came.2 shown)
