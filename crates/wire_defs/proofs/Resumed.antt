-- The shortest frame that asks for entries.
use Rattle.std.proofs.Common.{arith}
use Rattle.wire_defs.specs.Frames.{Resume, IsFrame}

pub resume_form : IsFrame (Resume 1)
resume_form = record { fields = (omega arith, omega arith); short = omega arith }
