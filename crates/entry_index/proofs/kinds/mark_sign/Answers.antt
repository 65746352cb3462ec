use Rattle.std.proofs.Common.{arith}
use Rattle.entry_index.specs.Fields.{truth, word, double, number_on}
use Rattle.entry_index.proofs.Chains.{front, behind, joined}
use Rattle.entry_index.proofs.Records.{no_mark, mark_told, empty_is}
use Rattle.entry_index.proofs.kinds.mark_sign.Goals as goal

pub returns-in_err-closing : goal.returns-in_err-closing
returns-in_err-closing c = rw c.from_residual.ensures (no_mark _ (front truth number_on _ c.in_err-closing.ensures))

pub returns-in_err-number : goal.returns-in_err-number
returns-in_err-number c = rw c.from_residual-in_err-number.ensures (no_mark _ (behind truth number_on _ _ _ c.in_ok-closing.ensures (front double word _ c.in_err-number.ensures)))

pub returns-in_err-blocks : goal.returns-in_err-blocks
returns-in_err-blocks c = rw c.from_residual-in_err-blocks.ensures (no_mark _ (behind truth number_on _ _ _ c.in_ok-closing.ensures (behind double word _ _ _ c.in_ok-number.ensures c.in_err-blocks.ensures)))

pub returns : goal.returns
returns c =
    mark_told _ _ _ _ _ (joined truth number_on _ _ _ _ _ c.in_ok-closing.ensures (joined double word _ _ _ _ _ c.in_ok-number.ensures c.in_ok-blocks.ensures))
    (omega arith) (empty_is _ _ c.is_empty.ensures c.if-not-is_empty.false)
