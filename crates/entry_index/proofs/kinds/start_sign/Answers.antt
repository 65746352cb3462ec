use Rattle.std.proofs.Common.{arith}
use Rattle.entry_index.specs.Fields.{byte, truth, word, region_on, mode_on, generations}
use Rattle.entry_index.proofs.Chains.{front, behind, joined}
use Rattle.entry_index.proofs.Records.{no_start, start_told, empty_is}
use Rattle.entry_index.proofs.kinds.start_sign.Goals as goal

pub returns-in_err-version : goal.returns-in_err-version
returns-in_err-version c = rw c.from_residual.ensures (no_start _ (front byte region_on _ c.in_err-version.ensures))

pub returns-in_err-region : goal.returns-in_err-region
returns-in_err-region c = rw c.from_residual-in_err-region.ensures (no_start _ (behind byte region_on _ _ _ c.in_ok-version.ensures (front byte mode_on _ c.in_err-region.ensures)))

pub returns-in_err-before : goal.returns-in_err-before
returns-in_err-before c = rw c.from_residual-in_err-before.ensures (no_start _ (behind byte region_on _ _ _ c.in_ok-version.ensures (behind byte mode_on _ _ _ c.in_ok-region.ensures
    (front truth generations _ c.in_err-before.ensures))))

pub returns-in_err-generation : goal.returns-in_err-generation
returns-in_err-generation c = rw c.from_residual-in_err-generation.ensures (no_start _ (behind byte region_on _ _ _ c.in_ok-version.ensures (behind byte mode_on _ _ _ c.in_ok-region.ensures
    (behind truth generations _ _ _ c.in_ok-before.ensures (front word word _ c.in_err-generation.ensures)))))

pub returns-in_err-previous : goal.returns-in_err-previous
returns-in_err-previous c = rw c.from_residual-in_err-previous.ensures (no_start _ (behind byte region_on _ _ _ c.in_ok-version.ensures (behind byte mode_on _ _ _ c.in_ok-region.ensures
    (behind truth generations _ _ _ c.in_ok-before.ensures (behind word word _ _ _ c.in_ok-generation.ensures c.in_err-previous.ensures)))))

pub returns : goal.returns
returns c =
    start_told _ _ _ _ _ _ _ (joined byte region_on _ _ _ _ _ c.in_ok-version.ensures (joined byte mode_on _ _ _ _ _ c.in_ok-region.ensures
    (joined truth generations _ _ _ _ _ c.in_ok-before.ensures (joined word word _ _ _ _ _ c.in_ok-generation.ensures c.in_ok-previous.ensures))))
    (omega arith) (omega arith) (omega arith) (omega arith) (empty_is _ _ c.is_empty.ensures c.if-not-is_empty.false)
