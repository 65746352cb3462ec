use Rattle.std.proofs.Common.{◌∙◌}
use Rattle.gvn_globals.proofs.Gone.{same_skipped}
use Rattle.gvn_globals.proofs.overlay.Overlay.skip.Goals as goal

pub invariant_of-self-2 : goal.invariant_of-self-2
invariant_of-self-2 g c =
    let same = same_skipped (g.G.Lookup.seen c.self.inside.on.now) c.self.inside.sets c.self.inside.gone c.args.self.now c.self.view_is c.args.key.now c.args.last.now c.requires
    c.self.inside.nodes c.self.invariant.0 c.self.invariant.1 c.code.ensures.valid c.set.result c.set.new.self c.in_ok-copy.field-0 c.in_ok-end.end c.in_ok-copy.ensures (c.in_ok-end.ensures ∙ c.code.ensures.value) c.set.ensures.ok c.set.ensures.err in
    (same.0, same.1)

pub returns : goal.returns
returns g c =
    (same_skipped (g.G.Lookup.seen c.self.inside.on.now) c.self.inside.sets c.self.inside.gone c.args.self.now c.self.view_is c.args.key.now c.args.last.now c.requires
    c.self.inside.nodes c.self.invariant.0 c.self.invariant.1 c.code.ensures.valid c.set.result c.set.new.self c.in_ok-copy.field-0 c.in_ok-end.end c.in_ok-copy.ensures (c.in_ok-end.ensures ∙ c.code.ensures.value) c.set.ensures.ok c.set.ensures.err).2
