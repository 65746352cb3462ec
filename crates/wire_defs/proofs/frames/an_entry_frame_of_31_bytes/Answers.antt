use Rattle.std.proofs.Common.{refl}
use Rattle.std.specs.Fmt.{digits}
use Rattle.wire_defs.proofs.frames.an_entry_frame_of_31_bytes.Goals as goal

pub returns : goal.returns
unfolding digits
returns c = refl
