use Rattle.std.proofs.Common.{take}
use Rattle.gvn_globals.specs.Together.{IsLess}
use Rattle.gvn_globals.proofs.globals.Globals.remove_all.Given as goal

abbrev pub invariant-loop-key : goal.invariant-loop-key
invariant-loop-key l = IsLess l.fn.self (take l.key-index l.keys) l.self
