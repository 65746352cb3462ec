use Rattle.source_server.proofs.Made.{begins, stays, takes, ends}
use Rattle.source_server.proofs.laws.shipping_goes_on.Goals as goal

pub returns-clause-begins : goal.returns-clause-begins
returns-clause-begins c = begins

pub returns-clause-sent : goal.returns-clause-sent
returns-clause-sent c = stays

pub returns-clause-taken : goal.returns-clause-taken
returns-clause-taken c = takes

pub returns-clause-ended : goal.returns-clause-ended
returns-clause-ended c = ends
