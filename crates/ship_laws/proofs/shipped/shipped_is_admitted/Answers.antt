use Rattle.ship_laws.proofs.Whole.{whole, never_bad}
use Rattle.ship_laws.proofs.shipped.shipped_is_admitted.Goals as goal

pub returns-clause-whole : goal.returns-clause-whole
returns-clause-whole c = whole

pub returns-clause-never_bad : goal.returns-clause-never_bad
returns-clause-never_bad c = never_bad
