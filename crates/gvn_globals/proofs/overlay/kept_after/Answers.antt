use Rattle.std.proofs.Common.{is_some, sym, ap, subst, arith}
use Rattle.gvn_globals.proofs.Subtree.{left}
use Rattle.gvn_globals.proofs.Overlays.{IsPassed, passes_first, passed_kept, passed_all}
use Rattle.gvn_globals.proofs.Gone.{passes_end, end_smaller}
use Rattle.gvn_globals.proofs.overlay.kept_after.Goals as goal

pub loop-found-init : goal.loop-found-init
loop-found-init g c = subst (IsPassed (g.G.Lookup.seen c.args.on.now) c.args.gone.now c.args.key.now) (sym c.in_ok-found.ensures) (passes_first (g.G.Lookup.seen c.args.on.now) c.args.gone.now c.args.key.now)

pub returns-in_default-get : goal.returns-in_default-get
returns-in_default-get g c = passed_kept (g.G.Lookup.seen c.args.on.now) c.args.gone.now c.args.key.now c.in-Some.node
    (subst (IsPassed (g.G.Lookup.seen c.args.on.now) c.args.gone.now c.args.key.now) c.in-Some.is c.loop-found.invariant) (ap is_some (sym c.in_default-get.ensures))

pub loop-found-smaller : goal.loop-found-smaller
loop-found-smaller g c =
    let e = end_smaller (g.G.Lookup.seen c.args.on.now) c.in-Some.node c.in_ok-last.last c.in-Some-get.end.now c.in_ok-last.ensures in
    let f = ap (left (g.G.Lookup.seen c.args.on.now)) c.in_ok-found-2.ensures in
    let h = ap (left (g.G.Lookup.seen c.args.on.now)) c.in-Some.is in
    omega arith

pub loop-found-preserved : goal.loop-found-preserved
loop-found-preserved g c = subst (IsPassed (g.G.Lookup.seen c.args.on.now) c.args.gone.now c.args.key.now) (sym c.in_ok-found-2.ensures)
    (passes_end (g.G.Lookup.seen c.args.on.now) c.args.gone.now c.requires c.args.key.now c.in-Some.node c.in_ok-last.last c.in-Some-get.end.now
    (subst (IsPassed (g.G.Lookup.seen c.args.on.now) c.args.gone.now c.args.key.now) c.in-Some.is c.loop-found.invariant) c.in-Some-get.ensures c.in_ok-last.ensures)

pub returns : goal.returns
returns g c = passed_all (g.G.Lookup.seen c.args.on.now) c.args.gone.now c.args.key.now
    (subst (IsPassed (g.G.Lookup.seen c.args.on.now) c.args.gone.now c.args.key.now) c.in_default.is c.loop-found.invariant)
