use Rattle.feeding_defs.proofs.Feeding.{takes_on, may_take_on}
use Rattle.feeding_defs.proofs.laws.taking_goes_on.Goals as goal

pub returns-clause-fed : goal.returns-clause-fed
returns-clause-fed c = takes_on

pub returns-clause-left : goal.returns-clause-left
returns-clause-left c = may_take_on
