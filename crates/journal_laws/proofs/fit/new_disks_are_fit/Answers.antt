use Rattle.journal_laws.proofs.NewDisks as laws
use Rattle.journal_laws.proofs.fit.new_disks_are_fit.Goals as goal

pub returns : goal.returns
returns c = record { empty = laws.empty_is_fit; created = laws.created_is_fit }
