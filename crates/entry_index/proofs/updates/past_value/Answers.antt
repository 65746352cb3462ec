use Rattle.std.proofs.Common.{arith}
use Rattle.entry_index.proofs.Passing.{value_passed, no_value, no_long}
use Rattle.entry_index.proofs.updates.past_value.Goals as goal

pub returns-in_err-text : goal.returns-in_err-text
returns-in_err-text c = rw c.from_residual.ensures (no_long _ c.in_err-text.ensures)

pub returns-then-text-le-LONGEST_VALUE : goal.returns-then-text-le-LONGEST_VALUE
returns-then-text-le-LONGEST_VALUE c = value_passed _ _ _ c.in_ok-text.ensures (omega arith)

pub returns-else-text-le-LONGEST_VALUE : goal.returns-else-text-le-LONGEST_VALUE
returns-else-text-le-LONGEST_VALUE c = no_value _ _ _ c.in_ok-text.ensures (λ short. omega (arith, short))
