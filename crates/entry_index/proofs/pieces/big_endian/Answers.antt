use Rattle.std.proofs.Common.{rules}
use Rattle.std.proofs.lemmas.Nat.{be_bytes_4}
use Rattle.entry_index.proofs.pieces.big_endian.Goals as goal

pub returns-clause-spelled : goal.returns-clause-spelled
returns-clause-spelled c = be_bytes_4 c.args.bytes _ (search rules) (search rules) c.from_be_bytes.ensures
