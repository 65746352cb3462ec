use Rattle.std.proofs.Common.{arith, ◌-◌}
use Rattle.std.proofs.lemmas.Bool.{iff_false}
use Rattle.repl_wire.proofs.Begun.{root_fits, root_awaited}
use Rattle.repl_wire.proofs.bodies.root_length_read.Goals as goal

pub returns-then-not-fits_root : goal.returns-then-not-fits_root
returns-then-not-fits_root c = λ w h. iff_false c.fits_root.ensures c.if-not-fits_root.true (root_fits c.args.byte c.args.left c.args.items w h)

pub returns : goal.returns
returns c = let f = c.fits_root.ensures.0 c.if-not-fits_root.false in rw c.from.ensures (root_awaited c.args.byte c.args.left (c.args.left - c.args.byte) c.args.items f.0 f.1 (omega (arith, f.2)) f.3)
