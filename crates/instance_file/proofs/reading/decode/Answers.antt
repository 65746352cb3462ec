use Rattle.std.proofs.Common.{arith}
use Rattle.instance_file.proofs.Bodies.{no_body, longer_body}
use Rattle.instance_file.proofs.reading.decode.Goals as goal

pub returns-in_default : goal.returns-in_default
returns-in_default c = no_body c.args.body.now (rw c.in_default.is at c.in_ok-record.ensures)

pub returns-else-is_empty : goal.returns-else-is_empty
returns-else-is_empty c = longer_body c.args.body.now _ _ (rw c.in-Some.is at c.in_ok-record.ensures) (λ none. let no = c.is_empty.ensures in grind arith)
