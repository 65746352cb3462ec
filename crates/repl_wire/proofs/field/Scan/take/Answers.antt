use Rattle.repl_wire.proofs.field.Scan.take.Goals as goal

pub returns-in-Key : goal.returns-in-Key
returns-in-Key c = rw c.in-Key.is c.key_taken.ensures
