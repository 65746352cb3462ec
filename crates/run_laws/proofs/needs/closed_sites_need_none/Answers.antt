use Rattle.run_laws.proofs.Needed as needed
use Rattle.run_laws.proofs.needs.closed_sites_need_none.Goals as goal

pub returns : goal.returns
returns c = record {
  stop = needed.stop-closed;
  recovered = needed.backward-closed;
  recovered_forward = needed.forward-closed;
  rolled_back = needed.rollback-closed;
  set_journal = needed.set-closed;
  started = needed.stop-starts;
}
