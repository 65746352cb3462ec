use Rattle.run_laws.proofs.Counts as counts
use Rattle.run_laws.proofs.faults.faults_are_told_where_counts_rose.Goals as goal

pub returns : goal.returns
returns c = record { step = counts.fell-step; step_told = counts.told-step; runs = counts.fell-runs; runs_told = counts.told-runs; cut_off = counts.fell-cut }
