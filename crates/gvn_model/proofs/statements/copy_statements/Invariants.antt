use Rattle.std.proofs.Common.{◌≡◌, take}
use Rattle.gvn_model.proofs.statements.copy_statements.Given as goal

abbrev pub invariant-loop-statement : goal.invariant-loop-statement
invariant-loop-statement l = l.made.items ≡ take l.statement-index l.statements
