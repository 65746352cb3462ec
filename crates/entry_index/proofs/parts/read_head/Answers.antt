use Rattle.std.proofs.Common.{ap, arith, length}
use Rattle.entry_index.specs.Fields.{byte, half, word, double, mask_on, updater_on, serial_on, count_on}
use Rattle.entry_index.proofs.Chains.{front, behind, joined}
use Rattle.entry_index.proofs.parts.read_head.Goals as goal

pub returns-then-bytes-lt-HEAD : goal.returns-then-bytes-lt-HEAD
returns-then-bytes-lt-HEAD c u rest form e = omega (arith, ap length e, c.if-bytes-lt-HEAD.true)

pub returns-in_err-number : goal.returns-in_err-number
returns-in_err-number c = rw c.from_residual.ensures (front double mask_on _ c.in_err-number.ensures)

pub returns-in_err-mask : goal.returns-in_err-mask
returns-in_err-mask c = rw c.from_residual-in_err-mask.ensures (behind double mask_on _ _ _ c.in_ok-number.ensures (front byte updater_on _ c.in_err-mask.ensures))

pub returns-in_err-updater : goal.returns-in_err-updater
returns-in_err-updater c = rw c.from_residual-in_err-updater.ensures (behind double mask_on _ _ _ c.in_ok-number.ensures (behind byte updater_on _ _ _ c.in_ok-mask.ensures (front byte serial_on _ c.in_err-updater.ensures)))

pub returns-in_err-serial : goal.returns-in_err-serial
returns-in_err-serial c = rw c.from_residual-in_err-serial.ensures (behind double mask_on _ _ _ c.in_ok-number.ensures (behind byte updater_on _ _ _ c.in_ok-mask.ensures
    (behind byte serial_on _ _ _ c.in_ok-updater.ensures (front word count_on _ c.in_err-serial.ensures))))

pub returns-in_err-count : goal.returns-in_err-count
returns-in_err-count c = rw c.from_residual-in_err-count.ensures (behind double mask_on _ _ _ c.in_ok-number.ensures (behind byte updater_on _ _ _ c.in_ok-mask.ensures
    (behind byte serial_on _ _ _ c.in_ok-updater.ensures (behind word count_on _ _ _ c.in_ok-serial.ensures (front half half _ c.in_err-count.ensures)))))

pub returns-in_err-items : goal.returns-in_err-items
returns-in_err-items c = rw c.from_residual-in_err-items.ensures (behind double mask_on _ _ _ c.in_ok-number.ensures (behind byte updater_on _ _ _ c.in_ok-mask.ensures
    (behind byte serial_on _ _ _ c.in_ok-updater.ensures (behind word count_on _ _ _ c.in_ok-serial.ensures (behind half half _ _ _ c.in_ok-count.ensures c.in_err-items.ensures)))))

pub returns : goal.returns
returns c = joined double mask_on _ _ _ _ _ c.in_ok-number.ensures (joined byte updater_on _ _ _ _ _ c.in_ok-mask.ensures
    (joined byte serial_on _ _ _ _ _ c.in_ok-updater.ensures (joined word count_on _ _ _ _ _ c.in_ok-serial.ensures (joined half half _ _ _ _ _ c.in_ok-count.ensures c.in_ok-items.ensures))))
