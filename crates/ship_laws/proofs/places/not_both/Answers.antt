use Rattle.std.proofs.Common.{false, IsTrue}
use Rattle.ship_defs.specs.Hearing.{Admits, IsHeardOut}
use Rattle.ship_defs.specs.Greeting.{Greets}
use Rattle.ship_laws.proofs.Walks.{bad_or_ended, one_end}
use Rattle.ship_laws.proofs.Rules.{admits_one, greets_one, admits_out, greets_out}
use Rattle.ship_laws.proofs.places.not_both.Goals as goal

pub returns-clause-from_primary : goal.returns-clause-from_primary
returns-clause-from_primary c = λ p. bad_or_ended (Admits p) (admits_one p) IsHeardOut (admits_out p)

pub returns-clause-to_primary : goal.returns-clause-to_primary
returns-clause-to_primary c = bad_or_ended Greets greets_one IsTrue greets_out false

pub returns-clause-one_last : goal.returns-clause-one_last
returns-clause-one_last c = λ p. one_end (Admits p) (admits_one p) IsHeardOut (admits_out p)

pub returns-clause-one_hello : goal.returns-clause-one_hello
returns-clause-one_hello c = one_end Greets greets_one IsTrue greets_out false
