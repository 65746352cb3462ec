use Rattle.std.proofs.Common.{arith}
use Rattle.entry_index.proofs.Records.{no_before, before_told}
use Rattle.entry_index.proofs.kinds.before_sign.Goals as goal

pub returns-in_err-block : goal.returns-in_err-block
returns-in_err-block c = rw c.from_residual.ensures (no_before _ c.in_err-block.ensures)

pub returns-then-image-eq-BLOCK : goal.returns-then-image-eq-BLOCK
returns-then-image-eq-BLOCK c = before_told _ _ _ c.in_ok-block.ensures (omega arith)
