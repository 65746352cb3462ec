use Rattle.run_laws.proofs.Stays as entries
use Rattle.run_laws.proofs.entries.printed_entries_stay.Goals as goal

pub returns : goal.returns
returns c = record { step = entries.keeps-step; runs = entries.keeps-runs; printed = entries.printed-text; there = entries.printed-there; stays = entries.printed-stay }
