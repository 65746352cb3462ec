use Rattle.session_handshake.proofs.Among.{among_none, among_own, among_other, among_opened, among_settled, among_on, among_given_back}
use Rattle.session_handshake.proofs.laws.sessions_apart.Goals as goal

pub returns-clause-none : goal.returns-clause-none
returns-clause-none c = among_none

pub returns-clause-own : goal.returns-clause-own
returns-clause-own c = among_own

pub returns-clause-other : goal.returns-clause-other
returns-clause-other c = among_other

pub returns-clause-opened : goal.returns-clause-opened
returns-clause-opened c = among_opened

pub returns-clause-settled : goal.returns-clause-settled
returns-clause-settled c = among_settled

pub returns-clause-on : goal.returns-clause-on
returns-clause-on c = among_on

pub returns-clause-given_back : goal.returns-clause-given_back
returns-clause-given_back c = among_given_back
