use Rattle.std.proofs.Common.{◌≡◌, ℕ, [], ◌∷◌, ◌++◌, false, true, sym, ap, subst, ◌∙◌}
use Rattle.recv_pool.specs.Pools.{put_in}
use Rattle.repl_wire.specs.Values.{frame_value}
use Rattle.receiver_server.specs.Hearings.{MayCome}
use Rattle.receiver_server.specs.Listenings.{Listening, IsUnfitBehind}
use Rattle.receiver_server.specs.declared.step.HearError.TheVariants.{BadFrame}
use Rattle.receiver_server.proofs.Steps.{unfit_one, tells_hears, hearing_on}
use Rattle.receiver_server.proofs.receiver.Receiver.hear_next.Goals as goal

pub returns-then-not-may_come-clause-bad : goal.returns-then-not-may_come-clause-bad
returns-then-not-may_come-clause-bad c = λ offset e begun received frames h.
    let s = c.args.self.now in
    let f = frame_value c.in-Some.frame.now in
    let told : BadFrame s.offset ≡ BadFrame offset = sym c.bad_frame.ensures ∙ e in
    let at : s.offset ≡ offset = cc in
    let is : s.incoming.waiting ≡ f ∷ c.in-Some.ensures.is.0 = sym (ap (λ (x : Listening). x.incoming.waiting) c.self.view_is) ∙ c.in-Some.ensures.is.1 in
    let never : MayCome s.heard f → ⊥ = λ may. let here : false ≡ true = c.if-not-may_come.ensures.1 (subst (λ (x : Listening). MayCome x.heard f) (sym c.self.view_is) may) in let no : ⊥ = cc in no in
    subst (λ (o : ℕ). IsUnfitBehind s.purpose begun frames received false o) at (unfit_one begun s f c.in-Some.ensures.is.0 received (put_in c.args.pool.now) frames is never h)

pub returns-in-Ok-clause-hears : goal.returns-in-Ok-clause-hears
returns-in-Ok-clause-hears c = λ begun received frames h.
    let t = c.take_next.ensures.hears in
    (frames ++ t.0 ∷ [], tells_hears c.take_next.result t.0 frames t.1, hearing_on begun c.args.self.now c.take_next.new.self t.0 received (put_in c.args.pool.now) (put_in c.take_next.new.pool) frames t.2 t.3 h)
