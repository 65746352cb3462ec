use Rattle.std.proofs.Common.{arith, ◌-◌}
use Rattle.repl_wire.proofs.Begun.{value_skipped}
use Rattle.repl_wire.proofs.bodies.value_length_read.Goals as goal

pub returns : goal.returns
returns c = let r = c.requires in rw c.from.ensures (value_skipped c.args.length c.args.left (c.args.left - c.args.length) c.args.items (omega arith) (omega (arith, r.0)) (omega (arith, r.0), omega (arith, r.1)))
