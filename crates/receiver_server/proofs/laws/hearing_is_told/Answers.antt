use Rattle.receiver_server.proofs.Told.{all_heard, ends_early, bad_all, whole_all}
use Rattle.receiver_server.proofs.laws.hearing_is_told.Goals as goal

pub returns-clause-over : goal.returns-clause-over
returns-clause-over c = all_heard

pub returns-clause-early : goal.returns-clause-early
returns-clause-early c = ends_early

pub returns-clause-bad : goal.returns-clause-bad
returns-clause-bad c = bad_all

pub returns-clause-whole : goal.returns-clause-whole
returns-clause-whole c = whole_all
