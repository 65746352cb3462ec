use Rattle.run_laws.proofs.Needed as needed
use Rattle.run_laws.proofs.needs.needs_are_exact.Goals as goal

pub returns : goal.returns
returns c = record {
  started = needed.start-done;
  not_started = needed.start-refused;
  recovered = needed.recover-done;
  not_recovered = needed.recover-refused;
  rolled_back = needed.rollback-done;
  not_rolled_back = needed.rollback-refused;
}
