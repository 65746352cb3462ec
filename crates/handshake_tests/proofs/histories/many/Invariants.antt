use Rattle.std.specs.List.{AllByRecursion}
use Rattle.global_defs.specs.Fields.{IsReign}
use Rattle.handshake_tests.proofs.histories.many.Given as goal

abbrev pub invariant-loop-i : goal.invariant-loop-i
invariant-loop-i l = AllByRecursion IsReign l.reigns
