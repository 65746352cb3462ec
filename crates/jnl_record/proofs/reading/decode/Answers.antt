use Rattle.std.proofs.Common.{arith}
use Rattle.jnl_record.proofs.Records.{no_body, longer_body}
use Rattle.jnl_record.proofs.reading.decode.Goals as goal

pub returns-in_default-clause-refused : goal.returns-in_default-clause-refused
returns-in_default-clause-refused c = λ at same. no_body c.args.body.now (rw c.in_default.is at c.in_ok-record.ensures.read)

pub returns-else-is_empty-clause-refused : goal.returns-else-is_empty-clause-refused
returns-else-is_empty-clause-refused c = λ at same. longer_body c.args.body.now _ _ (rw c.in-Some.is at c.in_ok-record.ensures.read) (λ none. let no = c.is_empty.ensures in grind arith)
