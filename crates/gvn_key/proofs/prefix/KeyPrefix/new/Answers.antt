use Rattle.std.proofs.Common.{arith}
use Rattle.gvn_key.proofs.Taking.{at_start}
use Rattle.gvn_key.proofs.prefix.KeyPrefix.new.Goals as goal

pub returns-then-fits-clause-cases : goal.returns-then-fits-clause-cases
returns-then-fits-clause-cases c = at_start c.args.len (omega (arith, c.ranges.len)) (cc)
