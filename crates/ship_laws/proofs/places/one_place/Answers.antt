use Rattle.std.proofs.Common.{false, IsTrue}
use Rattle.ship_defs.specs.Hearing.{Fits, Admits, IsOver, IsHeardOut}
use Rattle.ship_defs.specs.Greeting.{Greets}
use Rattle.ship_laws.proofs.Walks.{at_one}
use Rattle.ship_laws.proofs.Rules.{fits_one, admits_one, greets_one, fits_out, admits_out, greets_out}
use Rattle.ship_laws.proofs.places.one_place.Goals as goal

pub returns-clause-from_primary : goal.returns-clause-from_primary
returns-clause-from_primary c = λ p. at_one (Admits p) (admits_one p) IsHeardOut (admits_out p)

pub returns-clause-unfit : goal.returns-clause-unfit
returns-clause-unfit c = λ p. at_one (Fits p) (fits_one p) (λ x. IsOver x.last) (fits_out p)

pub returns-clause-to_primary : goal.returns-clause-to_primary
returns-clause-to_primary c = at_one Greets greets_one IsTrue greets_out false
