use Rattle.std.proofs.Common.{take}
use Rattle.gvn_globals.proofs.Subtree.{IsWithout}
use Rattle.gvn_globals.proofs.globals.Globals.kill.Given as goal

abbrev pub invariant-loop-key : goal.invariant-loop-key
invariant-loop-key l = IsWithout l.fn.self (take l.key-index l.key-items) l.self
