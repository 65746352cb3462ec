use Rattle.std.proofs.Common.{None, is_some, if◌then◌else◌, sym, ap, ◌∙◌}
use Rattle.std.specs.FinMap as globals
use Rattle.gvn_globals.proofs.Overlays.{get_kept, gone_kept}
use Rattle.gvn_globals.proofs.Noted.{copied}
use Rattle.gvn_globals.proofs.together.is_kept.Goals as goal

pub returns-then-is_some : goal.returns-then-is_some
returns-then-is_some c = sym (ap is_some (gone_kept c.args.on.now c.args.gone.now c.args.key.now (ap is_some (sym c.get.ensures) ∙ copied c.get.result ∙ sym c.if-is_some.ensures)))

pub returns-else-is_some : goal.returns-else-is_some
returns-else-is_some c =
    c.is_some-else-is_some.ensures ∙ sym (copied c.get-else-is_some.result)
    ∙ ap is_some (c.get-else-is_some.ensures ∙ sym (get_kept c.args.on.now c.args.gone.now c.args.key.now
    ∙ ap (λ b. if b then None else globals.get c.args.on.now c.args.key.now) (ap is_some (sym c.get.ensures) ∙ copied c.get.result ∙ sym c.if-is_some.ensures)))
