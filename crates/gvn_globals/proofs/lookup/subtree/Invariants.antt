use Rattle.gvn_globals.proofs.Subtree.{IsWalked, left}
use Rattle.gvn_globals.proofs.lookup.subtree.Given as goal

abbrev pub invariant-loop-found : goal.invariant-loop-found
invariant-loop-found g l = IsWalked (g.W.Walk.walked l.on) l.top l.keys.items l.found

abbrev pub decreases-loop-found : goal.decreases-loop-found
decreases-loop-found g l = left (g.W.Walk.walked l.on) l.found
