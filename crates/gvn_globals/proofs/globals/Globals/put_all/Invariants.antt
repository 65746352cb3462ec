use Rattle.std.proofs.Common.{◌≡◌, length}
use Rattle.gvn_globals.specs.Overlaid.{with_all}
use Rattle.gvn_globals.specs.Together.{AreHeld}
use Rattle.gvn_globals.proofs.globals.Globals.put_all.Given as goal

-- what is left leads there
abbrev pub invariant-loop-ready : goal.invariant-loop-ready
invariant-loop-ready l = AreHeld l.self l.all.items × (with_all l.self l.all.items ≡ with_all l.fn.self l.fn.all.items)

abbrev pub decreases-loop-ready : goal.decreases-loop-ready
decreases-loop-ready l = length l.all.items
