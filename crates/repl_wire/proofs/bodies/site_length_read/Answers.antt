use Rattle.std.proofs.Common.{arith, ◌-◌}
use Rattle.std.proofs.lemmas.Bool.{iff_false}
use Rattle.repl_wire.proofs.Begun.{site_fits, site_awaited}
use Rattle.repl_wire.proofs.bodies.site_length_read.Goals as goal

pub returns-then-not-fits_site : goal.returns-then-not-fits_site
returns-then-not-fits_site c = λ w h. iff_false c.fits_site.ensures c.if-not-fits_site.true (site_fits c.args.byte c.args.left w (omega (arith, c.requires.1)) h)

pub returns : goal.returns
returns c = let f = c.fits_site.ensures.0 c.if-not-fits_site.false in rw c.from.ensures (site_awaited c.args.byte c.args.left (c.args.left - c.args.byte) f.0 f.1 (omega (arith, f.2)) f.3)
