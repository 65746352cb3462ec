use Rattle.run_laws.proofs.Marked as marked
use Rattle.run_laws.proofs.epochs.epochs_are_taken.Goals as goal

pub returns : goal.returns
returns c = record { epoch = marked.epoch-marks; stop = marked.stop-marks; recovered = marked.backward-marks; recovered_forward = marked.forward-marks; rolled_back = marked.rollback-marks }
