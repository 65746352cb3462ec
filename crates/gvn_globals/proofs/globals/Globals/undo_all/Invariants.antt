use Rattle.std.proofs.Common.{◌≡◌, length}
use Rattle.std.specs.Prelude.{reverse}
use Rattle.gvn_globals.specs.Undoing.{undone, CanUndo}
use Rattle.gvn_globals.proofs.globals.Globals.undo_all.Given as goal

-- what is left leads there
abbrev pub invariant-loop-undo : goal.invariant-loop-undo
invariant-loop-undo l = CanUndo l.self (reverse l.done.items) × (undone l.self (reverse l.done.items) ≡ undone l.fn.self (reverse l.fn.done.items))

abbrev pub decreases-loop-undo : goal.decreases-loop-undo
decreases-loop-undo l = length l.done.items
