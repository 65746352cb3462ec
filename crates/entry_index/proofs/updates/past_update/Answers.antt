use Rattle.entry_index.proofs.Passing.{kind_read, no_kind_read}
use Rattle.entry_index.proofs.updates.past_update.Goals as goal

pub returns-in_err-kind : goal.returns-in_err-kind
returns-in_err-kind c = rw c.from_residual.ensures (no_kind_read _ c.in_err-kind.ensures)

pub returns : goal.returns
returns c = kind_read _ _ _ c.in_ok-kind.ensures _ c.past_kind.ensures
