use Rattle.std.proofs.Common.{refl}
use Rattle.std.specs.Fmt.{digits}
use Rattle.journal_defs.proofs.bytes.journal_bytes_are.Goals as goal

pub returns-clause-tcom : goal.returns-clause-tcom
unfolding digits
returns-clause-tcom c = refl
