use Rattle.run_laws.proofs.Lost as lost
use Rattle.run_laws.proofs.rollbacks.rollbacks_write_what_is_lost.Goals as goal

pub returns : goal.returns
returns c = record { done = lost.rollback-lost; fault = lost.rollback-fault; cut_off = lost.rollback-cut_off }
