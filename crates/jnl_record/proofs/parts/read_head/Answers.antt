use Rattle.repl_fields.proofs.Chains.{byte, half, word, double, front, behind, joined}
use Rattle.jnl_record.proofs.Records.{count_on, serial_on, updater_on, mask_on, no_head, bad_head, some_head}
use Rattle.jnl_record.proofs.parts.read_head.Goals as goal

pub returns-in_err-serial : goal.returns-in_err-serial
returns-in_err-serial c = rw c.from_residual-in_err-serial.ensures (no_head _ (behind double mask_on _ _ _ c.in_ok-number.ensures (behind byte updater_on _ _ _ c.in_ok-mask.ensures
    (behind byte serial_on _ _ _ c.in_ok-updater.ensures (front word count_on _ c.in_err-serial.ensures)))))

pub returns-in_err-count : goal.returns-in_err-count
returns-in_err-count c = rw c.from_residual-in_err-count.ensures (no_head _ (behind double mask_on _ _ _ c.in_ok-number.ensures (behind byte updater_on _ _ _ c.in_ok-mask.ensures
    (behind byte serial_on _ _ _ c.in_ok-updater.ensures (behind word count_on _ _ _ c.in_ok-serial.ensures (front half half _ c.in_err-count.ensures))))))

pub returns-in_err-items : goal.returns-in_err-items
returns-in_err-items c = rw c.from_residual-in_err-items.ensures (no_head _ (behind double mask_on _ _ _ c.in_ok-number.ensures (behind byte updater_on _ _ _ c.in_ok-mask.ensures
    (behind byte serial_on _ _ _ c.in_ok-updater.ensures (behind word count_on _ _ _ c.in_ok-serial.ensures (behind half half _ _ _ c.in_ok-count.ensures c.in_err-items.ensures))))))

pub returns-then-is_valid : goal.returns-then-is_valid
returns-then-is_valid c = some_head _ _ _ (joined double mask_on _ _ _ _ _ c.in_ok-number.ensures (joined byte updater_on _ _ _ _ _ c.in_ok-mask.ensures
    (joined byte serial_on _ _ _ _ _ c.in_ok-updater.ensures (joined word count_on _ _ _ _ _ c.in_ok-serial.ensures (joined half half _ _ _ _ _ c.in_ok-count.ensures c.in_ok-items.ensures)))))
    (c.is_valid.ensures.0 c.if-is_valid.true)

pub returns-else-is_valid : goal.returns-else-is_valid
returns-else-is_valid c = bad_head _ (record { number = c.in_ok-number.number; mask = c.in_ok-mask.mask; origin = record { updater = c.in_ok-updater.updater; serial = c.in_ok-serial.serial }; count = c.in_ok-count.count; items = c.in_ok-items.items }) _
    (joined double mask_on _ _ _ _ _ c.in_ok-number.ensures (joined byte updater_on _ _ _ _ _ c.in_ok-mask.ensures
    (joined byte serial_on _ _ _ _ _ c.in_ok-updater.ensures (joined word count_on _ _ _ _ _ c.in_ok-serial.ensures (joined half half _ _ _ _ _ c.in_ok-count.ensures c.in_ok-items.ensures)))))
    (λ good. let yes = c.is_valid.ensures.1 good in cc)
