use Rattle.std.proofs.Common.{arith}
use Rattle.block_fmt.proofs.Lists.{none_moved}
use Rattle.block_fmt.proofs.places.shift_from.Goals as goal

pub returns-else-old-new-clause-items : goal.returns-else-old-new-clause-items
returns-else-old-new-clause-items c = none_moved c.args.old c.args.new c.args.j c.args.places.now.items (omega (arith, c.if-old-new.false)) c.requires.can
