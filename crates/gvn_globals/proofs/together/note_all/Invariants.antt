use Rattle.std.proofs.Common.{take}
use Rattle.gvn_globals.specs.Together.{AreNoted}
use Rattle.gvn_globals.proofs.together.note_all.Given as goal

abbrev pub invariant-loop-key : goal.invariant-loop-key
invariant-loop-key l = AreNoted l.fn.gone l.top (take l.key-index l.keys) l.gone
