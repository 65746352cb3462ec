use Rattle.repl_fields.proofs.Chains.{word, double, truth, front, behind}
use Rattle.jnl_record.proofs.Records.{number_on, no_mark}
use Rattle.jnl_record.proofs.kinds.read_mark.Goals as goal

pub returns-in_err-number-clause-read : goal.returns-in_err-number-clause-read
returns-in_err-number-clause-read c = rw c.from_residual-in_err-number.ensures (no_mark _ (behind truth number_on _ _ _ c.in_ok-closing.ensures (front double word _ c.in_err-number.ensures)))

pub returns-in_err-blocks-clause-read : goal.returns-in_err-blocks-clause-read
returns-in_err-blocks-clause-read c = rw c.from_residual-in_err-blocks.ensures (no_mark _ (behind truth number_on _ _ _ c.in_ok-closing.ensures (behind double word _ _ _ c.in_ok-number.ensures c.in_err-blocks.ensures)))
