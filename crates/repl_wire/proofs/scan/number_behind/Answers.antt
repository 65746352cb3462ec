use Rattle.std.proofs.Common.{arith}
use Rattle.repl_wire.proofs.Scanned.{number_whole, number_open, fits_closer, whole_met}
use Rattle.repl_wire.proofs.scan.number_behind.Goals as goal

pub number_read-requires-clause-fits : goal.number_read-requires-clause-fits
number_read-requires-clause-fits c =
    let b = whole_met c.args.front c.if-front-eq0.true c.requires.met in
    fits_closer c.args.field c.args.front.low c.args.front.high c.args.front.value c.args.left c.args.items b.0 b.1 c.requires.fits

pub returns-then-front-eq0 : goal.returns-then-front-eq0
returns-then-front-eq0 c = number_whole c.args.field c.args.front c.args.left c.args.items c.number_read.result c.if-front-eq0.true c.requires.met c.number_read.ensures

pub returns : goal.returns
returns c = number_open c.args.field c.args.front c.args.left c.args.items (omega arith) c.requires.few c.requires.met c.requires.fits
