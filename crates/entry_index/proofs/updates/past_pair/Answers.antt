use Rattle.entry_index.specs.Fields.{key, value}
use Rattle.entry_index.proofs.Chains.{front, skipped}
use Rattle.entry_index.proofs.updates.past_pair.Goals as goal

pub returns-in_err-rest : goal.returns-in_err-rest
returns-in_err-rest c = rw c.from_residual.ensures (front key value _ c.in_err-rest.ensures)

pub returns : goal.returns
returns c = skipped key value _ c.in_ok-rest.ensures.0 _ c.in_ok-rest.ensures.1 _ c.past_value.ensures
