use Rattle.std.proofs.Common.{◌≡◌, length}
use Rattle.std.specs.List.{AllByRecursion}
use Rattle.global_defs.specs.Fields.{IsUpdate}
use Rattle.journal_tests.proofs.parts.transaction.Given as goal

abbrev pub invariant-loop-i : goal.invariant-loop-i
invariant-loop-i g l = record { count : length l.updates ≡ l.i; each : AllByRecursion IsUpdate l.updates }
