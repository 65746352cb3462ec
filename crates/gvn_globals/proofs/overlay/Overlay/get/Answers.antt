use Rattle.std.proofs.Common.{is_some, sym, ap, ◌∙◌}
use Rattle.std.specs.FinMap as globals
use Rattle.gvn_globals.proofs.Overlays.{get_set, get_gone, get_below}
use Rattle.gvn_globals.proofs.Noted.{copied}
use Rattle.gvn_globals.proofs.overlay.Overlay.get.Goals as goal

pub returns-in-Some : goal.returns-in-Some
returns-in-Some g c = get_set (g.G.Lookup.seen c.self.inside.on.now) c.self.inside.sets c.self.inside.gone c.args.key.now c.in-Some.value.now c.in-Some.ensures ∙ ap (λ m. globals.get m c.args.key.now) c.self.view_is

pub returns-then-is_some : goal.returns-then-is_some
returns-then-is_some g c = get_gone (g.G.Lookup.seen c.self.inside.on.now) c.self.inside.sets c.self.inside.gone c.args.key.now c.in-None.ensures
    (ap is_some (sym c.get-in-None.ensures) ∙ copied c.get-in-None.result ∙ sym c.if-is_some.ensures) ∙ ap (λ m. globals.get m c.args.key.now) c.self.view_is

pub returns-else-is_some : goal.returns-else-is_some
returns-else-is_some g c = c.get-else-is_some.ensures ∙ get_below (g.G.Lookup.seen c.self.inside.on.now) c.self.inside.sets c.self.inside.gone c.args.key.now c.in-None.ensures
    (ap is_some (sym c.get-in-None.ensures) ∙ copied c.get-in-None.result ∙ sym c.if-is_some.ensures) ∙ ap (λ m. globals.get m c.args.key.now) c.self.view_is
