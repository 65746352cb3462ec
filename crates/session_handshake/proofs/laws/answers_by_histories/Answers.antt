use Rattle.session_handshake.proofs.Carried.{follows_on, rolls_back}
use Rattle.session_handshake.proofs.laws.answers_by_histories.Goals as goal

pub returns-clause-resume : goal.returns-clause-resume
returns-clause-resume c = follows_on

pub returns-clause-rollback_first : goal.returns-clause-rollback_first
returns-clause-rollback_first c = rolls_back
