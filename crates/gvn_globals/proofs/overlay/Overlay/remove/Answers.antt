use Rattle.std.proofs.Common.{[], is_some, if◌then◌else◌, sym, ap, subst, ◌∙◌}
use Rattle.std.specs.FinMap as globals
use Rattle.gvn_globals.specs.Overlaid.{overlaid, AreGone}
use Rattle.gvn_globals.proofs.Overlays.{overlaid_remove, nodes_removed}
use Rattle.gvn_globals.proofs.Gone.{gone_removed}
use Rattle.gvn_globals.proofs.overlay.Overlay.remove.Goals as goal

pub overflow_sub-self : goal.overflow_sub-self
overflow_sub-self g c = (nodes_removed (g.G.Lookup.seen c.self.inside.on.now) c.self.inside.sets c.self.inside.gone c.args.self.now c.self.view_is c.args.key.now [] c.self.inside.nodes c.from-known.result c.self.invariant.0
    (c.from-known.ensures ∙ c.ones.ensures ∙ ap (λ o. if is_some o then 1 else 0) c.get.ensures)).0

pub invariant_of-self-2 : goal.invariant_of-self-2
invariant_of-self-2 g c = (
  (nodes_removed (g.G.Lookup.seen c.self.inside.on.now) c.self.inside.sets c.self.inside.gone c.args.self.now c.self.view_is c.args.key.now c.new-none.result c.self.inside.nodes c.from-known.result c.self.invariant.0
      (c.from-known.ensures ∙ c.ones.ensures ∙ ap (λ o. if is_some o then 1 else 0) c.get.ensures)).1
      ∙ ap (λ s. globals.len (overlaid (g.G.Lookup.seen c.self.inside.on.now) s (globals.insert c.self.inside.gone c.args.key.now c.new-none.result))) (sym c.remove.ensures)
      ∙ ap (λ h. globals.len (overlaid (g.G.Lookup.seen c.self.inside.on.now) c.remove.new.self h)) (sym (c.in_ok-set.ensures.ok ∙ ap (λ k. globals.insert c.self.inside.gone k c.new-none.result) c.in_ok-copy.ensures)),
  subst (AreGone (g.G.Lookup.seen c.self.inside.on.now)) (sym (c.in_ok-set.ensures.ok ∙ ap (λ k. globals.insert c.self.inside.gone k c.new-none.result) c.in_ok-copy.ensures ∙ ap (globals.insert c.self.inside.gone c.args.key.now) c.new-none.ensures))
      (gone_removed (g.G.Lookup.seen c.self.inside.on.now) c.self.inside.gone c.args.key.now c.self.invariant.1),
)

pub returns-clause-ok : goal.returns-clause-ok
returns-clause-ok g c =
    ap (λ h. overlaid (g.G.Lookup.seen c.self.inside.on.now) c.remove.new.self h) (c.in_ok-set.ensures.ok ∙ ap (λ k. globals.insert c.self.inside.gone k c.new-none.result) c.in_ok-copy.ensures)
    ∙ ap (λ s. overlaid (g.G.Lookup.seen c.self.inside.on.now) s (globals.insert c.self.inside.gone c.args.key.now c.new-none.result)) c.remove.ensures
    ∙ overlaid_remove (g.G.Lookup.seen c.self.inside.on.now) c.self.inside.sets c.self.inside.gone c.args.key.now c.new-none.result
    ∙ ap (λ m. globals.remove m c.args.key.now) c.self.view_is
