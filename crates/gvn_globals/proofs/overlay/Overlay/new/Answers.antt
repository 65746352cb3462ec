use Rattle.std.proofs.Common.{sym, ap, subst, ◌∙◌}
use Rattle.std.specs.FinMap as globals
use Rattle.gvn_globals.specs.Overlaid.{overlaid, AreGone}
use Rattle.gvn_globals.proofs.Overlays.{overlaid_new}
use Rattle.gvn_globals.proofs.Gone.{none_gone}
use Rattle.gvn_globals.proofs.overlay.Overlay.new.Goals as goal

pub returns : goal.returns
returns g c =
    ap (λ s. overlaid (g.G.Lookup.seen c.args.on.now) s c.new-2.result) c.new.ensures
    ∙ ap (overlaid (g.G.Lookup.seen c.args.on.now) globals.empty) c.new-2.ensures
    ∙ overlaid_new (g.G.Lookup.seen c.args.on.now)

pub invariant_of-result : goal.invariant_of-result
invariant_of-result g c = (
  c.nodes.ensures ∙ ap globals.len (sym (
      ap (λ s. overlaid (g.G.Lookup.seen c.args.on.now) s c.new-2.result) c.new.ensures
      ∙ ap (overlaid (g.G.Lookup.seen c.args.on.now) globals.empty) c.new-2.ensures
      ∙ overlaid_new (g.G.Lookup.seen c.args.on.now))),
  subst (AreGone (g.G.Lookup.seen c.args.on.now)) (sym c.new-2.ensures) (none_gone (g.G.Lookup.seen c.args.on.now)),
)
