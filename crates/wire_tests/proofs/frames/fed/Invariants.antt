use Rattle.std.specs.List.{AllByRecursion}
use Rattle.wire_defs.specs.Frames.{IsFrame}
use Rattle.wire_tests.proofs.frames.fed.Given as goal

abbrev pub invariant-loop-piece : goal.invariant-loop-piece
invariant-loop-piece l = AllByRecursion IsFrame l.out
