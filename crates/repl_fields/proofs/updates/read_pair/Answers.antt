use Rattle.std.proofs.Common.{rules}
use Rattle.repl_fields.proofs.Tagged.{no_value, key_and_value}
use Rattle.repl_fields.proofs.updates.read_pair.Goals as goal

pub returns-in_default-2 : goal.returns-in_default-2
returns-in_default-2 c = no_value c.args.bytes.now c.in-Some.key c.in-Some.rest.now (search rules) (search rules)

pub returns : goal.returns
returns c = key_and_value c.args.bytes.now c.in-Some.key c.in-Some.rest.now c.in-Some-2.value c.in-Some-2.rest.now (search rules) (search rules)
