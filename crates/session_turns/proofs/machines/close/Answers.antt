use Rattle.std.proofs.Common.{◌≡◌, false, sym, ◌∙◌}
use Rattle.session_turns.proofs.Given.{made_closed, end_reigns}
use Rattle.session_turns.proofs.machines.close.Goals as goal

pub returns-in-Ok-clause-made : goal.returns-in-Ok-clause-made
returns-in-Ok-clause-made c = λ from sent given g.
    let going : c.args.source.now.ended ≡ false = sym c.has_ended.ensures ∙ c.if-has_ended.false in
    made_closed from c.args.length c.args.source.now c.end.new.self sent given c.in-Ok.field-0 going c.in-Ok.ensures.all c.in-Ok.ensures.made c.in-Ok.ensures.not_yet g

pub returns-in-Ok-clause-reigns : goal.returns-in-Ok-clause-reigns
returns-in-Ok-clause-reigns c = end_reigns c.args.source.now c.end.new.self c.args.length c.in-Ok.field-0 c.in-Ok.ensures.made c.in-Ok.ensures.not_yet
