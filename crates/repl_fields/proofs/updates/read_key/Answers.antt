use Rattle.std.proofs.Common.{rules}
use Rattle.repl_fields.proofs.Tagged.{key_read}
use Rattle.repl_fields.proofs.updates.read_key.Goals as goal

pub returns-in-Some-2 : goal.returns-in-Some-2
returns-in-Some-2 c = key_read c.args.bytes.now c.in-Some.code.now c.in-Some.rest.now c.in-Some-2.key (search rules) (search rules) (search rules)
