use Rattle.std.proofs.Common.{◌≡◌, ap, ◌∙◌}
use Rattle.std.specs.FinMap as globals
use Rattle.global_defs.specs.Encoded.{encoded}
use Rattle.gvn_globals.proofs.AllOrNone.{on_ok}
use Rattle.gvn_globals.proofs.together.note.Goals as goal

pub returns-clause-made : goal.returns-clause-made
returns-clause-made c = on_ok c.set.result (c.set.new.self ≡ globals.insert c.args.gone.now c.in_ok-copy.field-0 c.in_ok-end.end)
    (c.set.new.self ≡ globals.insert c.args.gone.now c.args.key.now (encoded c.args.last.now))
    (λ e. e ∙ ap (λ k. globals.insert c.args.gone.now k c.in_ok-end.end) c.in_ok-copy.ensures
    ∙ ap (globals.insert c.args.gone.now c.args.key.now) (c.in_ok-end.ensures ∙ c.code.ensures.value)) c.set.ensures.ok
