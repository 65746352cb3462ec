use Rattle.std.proofs.Common.{arith, ◌-◌}
use Rattle.std.proofs.lemmas.Bool.{iff_false}
use Rattle.repl_wire.proofs.Begun.{key_length_fits, key_awaited, prefix_long}
use Rattle.repl_wire.proofs.bodies.key_length_read.Goals as goal

pub returns-then-not-fits_key : goal.returns-then-not-fits_key
returns-then-not-fits_key c = λ w h. iff_false c.fits_key.ensures c.if-not-fits_key.true (key_length_fits c.args.set c.args.byte c.args.left c.args.items w h)

pub returns-in-None : goal.returns-in-None
returns-in-None c = λ w h. c.in-None.ensures.cases h.0.front h.0.here

pub returns-in-Some : goal.returns-in-Some
returns-in-Some c =
    let f = c.fits_key.ensures.0 c.if-not-fits_key.false in
    rw c.from.ensures (key_awaited c.args.set c.in-Some.prefix c.args.byte c.args.left (c.args.left - c.args.byte) c.args.items c.in-Some.ensures.cases (prefix_long c.in-Some.prefix c.args.byte c.in-Some.ensures.cases) (omega (arith, f.0)) f.1)
