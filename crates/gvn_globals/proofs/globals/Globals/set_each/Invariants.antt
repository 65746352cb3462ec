use Rattle.std.proofs.Common.{◌≡◌, map, take, fold}
use Rattle.std.specs.Prelude.{reverse}
use Rattle.global_defs.specs.Entry as defs
use Rattle.gvn_key.specs.Terms.{update_value}
use Rattle.gvn_globals.specs.Undoing.{undone, CanUndo}
use Rattle.gvn_globals.proofs.globals.Globals.set_each.Given as goal

-- so many are made, and can be taken back
abbrev pub invariant-loop-update : goal.invariant-loop-update
invariant-loop-update l = CanUndo l.self (reverse l.done.items) × (undone l.self (reverse l.done.items) ≡ l.fn.self) × (l.self ≡ fold defs.apply l.fn.self (map update_value (take l.update-index l.updates)))
