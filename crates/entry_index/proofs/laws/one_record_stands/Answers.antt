use Rattle.entry_index.proofs.Stands.{one_stands}
use Rattle.entry_index.proofs.Opened.{open_stands}
use Rattle.entry_index.proofs.laws.one_record_stands.Goals as goal

pub returns : goal.returns
returns c = record { one = one_stands; opened = open_stands }
