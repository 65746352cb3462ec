use Rattle.std.specs.List.{AllByRecursion}
use Rattle.global_defs.specs.Fields.{IsReign}
use Rattle.handshake_tests.proofs.histories.history.Given as goal

abbrev pub invariant-loop-record : goal.invariant-loop-record
invariant-loop-record l = AllByRecursion IsReign l.reigns
