use Rattle.repl_wire.proofs.bodies.byte_read.Goals as goal

pub returns-in-Type : goal.returns-in-Type
returns-in-Type c = rw c.in-Type.is c.type_read.ensures
