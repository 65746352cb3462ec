use Rattle.std.proofs.Common.{arith}
use Rattle.gvn_key.proofs.Taking.{at_next, no_fit, no_step}
use Rattle.gvn_key.proofs.prefix.KeyPrefix.take.Goals as goal

pub returns-then-fits-clause-begins : goal.returns-then-fits-clause-begins
returns-then-fits-clause-begins c = λ taken len a. at_next c.args.self.now c.in-Some.place taken len c.args.byte a (omega arith) (cc c.in-Some.ensures) (cc)

pub returns-else-fits-clause-begins_none : goal.returns-else-fits-clause-begins_none
returns-else-fits-clause-begins_none c = λ taken len a. no_fit c.args.self.now c.in-Some.place taken len c.args.byte a (cc c.in-Some.ensures) (cc)

pub returns-in-None-clause-begins_none : goal.returns-in-None-clause-begins_none
returns-in-None-clause-begins_none c = λ taken len a. no_step c.args.self.now taken len c.args.byte a (cc c.in-None.ensures)
