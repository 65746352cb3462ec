use Rattle.std.proofs.Common.{Some, None}
use Rattle.jnl_record.proofs.Records.{no_part, tcom_read}
use Rattle.jnl_record.proofs.parts.read_part.Goals as goal

pub returns-in_default-clause-read : goal.returns-in_default-clause-read
returns-in_default-clause-read c = no_part _ c.in_default.ensures

pub returns-in_default-2-clause-read : goal.returns-in_default-2-clause-read
returns-in_default-2-clause-read c = tcom_read _ _ _ c.in-Some.ensures None (rw c.in_default-2.is at c.in_ok-items.ensures)

pub returns-clause-read : goal.returns-clause-read
returns-clause-read c = tcom_read _ _ _ c.in-Some.ensures (Some (c.in-Some-2.items, c.in-Some-2.rest.now)) (rw c.in-Some-2.is at c.in_ok-items.ensures)
