use Rattle.entry_index.proofs.Passing.{key_passed, no_key, no_code}
use Rattle.entry_index.proofs.updates.past_key.Goals as goal

pub returns-in_err-code : goal.returns-in_err-code
returns-in_err-code c = rw c.from_residual.ensures (no_code _ c.in_err-code.ensures)

pub returns-then-is_key : goal.returns-then-is_key
returns-then-is_key c = key_passed _ _ _ c.in_ok-code.ensures (c.is_key.ensures.0 c.if-is_key.true)

pub returns-else-is_key : goal.returns-else-is_key
returns-else-is_key c = no_key _ _ _ c.in_ok-code.ensures (λ is. let yes = c.is_key.ensures.1 is in cc)
