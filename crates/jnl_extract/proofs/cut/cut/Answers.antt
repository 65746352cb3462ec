use Rattle.std.proofs.Common.{◌∷◌, ◌++◌, ◌+◌, ◌-◌, take, drop, length, sym, ap, ◌∙◌, arith, length-drop}
use Rattle.std.proofs.lemmas.List.{take_all}
use Rattle.jnl_extract.proofs.Cuts.{cuts, uncut}
use Rattle.jnl_extract.proofs.cut.cut.Goals as goal

pub returns-in-None-clause-cases : goal.returns-in-None-clause-cases
returns-in-None-clause-cases c = uncut c.args.text.now c.args.byte (sym c.in-None.ensures.place)

pub returns-in-Some-clause-cases : goal.returns-in-Some-clause-cases
returns-in-Some-clause-cases c =
    let k = cuts c.args.text.now c.args.byte c.in-Some.i (sym c.in-Some.ensures.place) in
    let n = c.in-Some.i + 1 in
    k.whole ∙ ap (λ x. take c.in-Some.i c.args.text.now ++ c.args.byte ∷ x) (sym (take_all (length c.args.text.now - n) (drop n c.args.text.now) (omega (arith, length-drop n c.args.text.now))))

pub returns-in-Some-clause-first : goal.returns-in-Some-clause-first
returns-in-Some-clause-first c = (cuts c.args.text.now c.args.byte c.in-Some.i (sym c.in-Some.ensures.place)).first
