use Rattle.std.proofs.Common.{is_some, if◌then◌else◌, sym, ap, ◌∙◌}
use Rattle.std.specs.FinMap as globals
use Rattle.gvn_globals.specs.Overlaid.{overlaid}
use Rattle.gvn_globals.proofs.Overlays.{overlaid_set, nodes_set}
use Rattle.gvn_globals.proofs.overlay.Overlay.set.Goals as goal

pub invariant_of-self-2 : goal.invariant_of-self-2
invariant_of-self-2 g c = (
  c.in-Some.ensures.1
      ∙ nodes_set (g.G.Lookup.seen c.self.inside.on.now) c.self.inside.sets c.self.inside.gone c.args.self.now c.self.view_is c.args.key c.args.value c.self.inside.nodes c.from-known.result c.self.invariant.0
      (c.from-known.ensures ∙ c.ones.ensures ∙ ap (λ o. if is_some o then 1 else 0) c.get.ensures)
      ∙ ap (λ s. globals.len (overlaid (g.G.Lookup.seen c.self.inside.on.now) s c.self.inside.gone)) (sym c.in_ok-set.ensures.ok),
  c.self.invariant.1,
)

pub returns-clause-ok : goal.returns-clause-ok
returns-clause-ok g c =
    ap (λ s. overlaid (g.G.Lookup.seen c.self.inside.on.now) s c.self.inside.gone) c.in_ok-set.ensures.ok
    ∙ overlaid_set (g.G.Lookup.seen c.self.inside.on.now) c.self.inside.sets c.self.inside.gone c.args.key c.args.value
    ∙ ap (λ m. globals.insert m c.args.key c.args.value) c.self.view_is
