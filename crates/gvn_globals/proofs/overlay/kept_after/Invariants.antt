use Rattle.gvn_globals.proofs.Subtree.{left}
use Rattle.gvn_globals.proofs.Overlays.{IsPassed}
use Rattle.gvn_globals.proofs.overlay.kept_after.Given as goal

abbrev pub invariant-loop-found : goal.invariant-loop-found
invariant-loop-found g l = IsPassed (g.G.Lookup.seen l.on) l.gone l.key l.found

abbrev pub decreases-loop-found : goal.decreases-loop-found
decreases-loop-found g l = left (g.G.Lookup.seen l.on) l.found
