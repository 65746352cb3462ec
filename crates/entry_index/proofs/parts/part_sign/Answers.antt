use Rattle.entry_index.proofs.Records.{no_part, no_part_items, bad_part, longer_part, part_told, empty_is, not_empty}
use Rattle.entry_index.proofs.parts.part_sign.Goals as goal

pub returns-in_err-head : goal.returns-in_err-head
returns-in_err-head c = rw c.from_residual.ensures (no_part _ c.in_err-head.ensures)

pub returns-in_err-span : goal.returns-in_err-span
returns-in_err-span c = rw c.from_residual-in_err-span.ensures (no_part_items _ _ _ c.in_ok-head.ensures c.in_err-span.ensures)

pub returns-then-not-is_valid : goal.returns-then-not-is_valid
returns-then-not-is_valid c = bad_part _ _ _ c.in_ok-head.ensures _ _ c.in_ok-span.ensures (λ good. let yes = c.is_valid.ensures.1 good in cc)

pub returns-then-not-is_empty : goal.returns-then-not-is_empty
returns-then-not-is_empty c = longer_part _ _ _ c.in_ok-head.ensures _ _ c.in_ok-span.ensures (not_empty _ _ c.is_empty.ensures c.if-not-is_empty.true)

pub returns : goal.returns
returns c = part_told _ _ _ c.in_ok-head.ensures _ _ c.in_ok-span.ensures (c.is_valid.ensures.0 c.if-not-is_valid.false) (empty_is _ _ c.is_empty.ensures c.if-not-is_empty.false)
