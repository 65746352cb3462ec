use Rattle.feeding_defs.proofs.Begun.{within_same, within_on}
use Rattle.feeding_defs.proofs.laws.reigns_begin_apart.Goals as goal

pub returns-clause-none : goal.returns-clause-none
returns-clause-none c n rs = within_same n rs

pub returns-clause-joined : goal.returns-clause-joined
returns-clause-joined c a b d rs rise ab bc = within_on a b d 0 rs rise ab bc
