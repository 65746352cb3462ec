use Rattle.std.proofs.Common.{take}
use Rattle.gvn_globals.specs.Together.{IsMore}
use Rattle.gvn_globals.proofs.globals.Globals.add_all.Given as goal

abbrev pub invariant-loop-key : goal.invariant-loop-key
invariant-loop-key l = IsMore l.fn.self (take l.key-index l.keys) l.self
