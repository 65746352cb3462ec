use Rattle.std.proofs.Common.{ap, ◌∙◌}
use Rattle.gvn_globals.specs.Walks.{after, earlier, is_later}
use Rattle.gvn_globals.proofs.Overlays.{find_joined}
use Rattle.gvn_globals.proofs.overlay.Overlay.after.Goals as goal

pub returns : goal.returns
returns g c =
    c.earlier.ensures
    ∙ ap (λ o. earlier o c.in_ok-kept_after.field-0) c.in_ok-after.ensures
    ∙ ap (earlier (after c.self.inside.sets c.args.key.now)) c.in_ok-kept_after.ensures
    ∙ find_joined (g.G.Lookup.seen c.self.inside.on.now) c.self.inside.gone c.self.inside.sets (is_later c.args.key.now)
    ∙ ap (λ m. after m c.args.key.now) c.self.view_is
