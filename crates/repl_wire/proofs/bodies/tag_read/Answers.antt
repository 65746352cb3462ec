use Rattle.std.proofs.Common.{arith}
use Rattle.std.proofs.lemmas.Bool.{iff_false}
use Rattle.repl_wire.proofs.Begun.{tag_fits, tag_awaited}
use Rattle.repl_wire.proofs.bodies.tag_read.Goals as goal

pub returns-then-not-fits_tag : goal.returns-then-not-fits_tag
returns-then-not-fits_tag c = λ w h. iff_false c.fits_tag.ensures c.if-not-fits_tag.true (tag_fits c.args.byte c.args.left c.args.items w h)

pub returns : goal.returns
returns c = tag_awaited c.args.byte c.args.left c.args.items (omega (arith, c.requires.0)) (c.fits_tag.ensures.0 c.if-not-fits_tag.false)
