use Rattle.std.proofs.Common.{List, ℕ, [], ◌∷◌, ◌++◌, length, sym, ap, ◌∙◌, append_assoc, append-nil, arith}
use Rattle.wire_defs.specs.Frames.{spelled_frame, stream}
use Rattle.repl_wire.proofs.Apart.{frame_one}
use Rattle.repl_wire.proofs.Feeding.{front_one}
use Rattle.repl_wire.proofs.laws.frames_apart_hold.Goals as goal

pub returns-clause-one : goal.returns-clause-one
returns-clause-one c = frame_one

pub returns-clause-part : goal.returns-clause-part
returns-clause-part c = λ f g b more is_f is_g e.
    let one = frame_one f g [] (b ∷ more) is_f is_g (append-nil (spelled_frame f) ∙ e) in
    let none = ap length one.1 in
    omega (arith, none)

pub returns-clause-front : goal.returns-clause-front
returns-clause-front c = λ bytes more fs gs r s a b x.
    front_one fs gs (r ++ more) s a.each b.each (sym (append_assoc (stream fs) r more) ∙ ap (λ (l : List ℕ). l ++ more) (sym a.whole) ∙ b.whole) x
