use Rattle.repl_wire.proofs.Begun.{typed_awaited}
use Rattle.repl_wire.proofs.bodies.type_read.Goals as goal

pub returns-in-Some : goal.returns-in-Some
returns-in-Some c = typed_awaited c.body_length_begun.result c.in-Some.kind c.args.byte c.in-Some.ensures c.body_length_begun.ensures
