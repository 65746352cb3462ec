use Rattle.journal_laws.proofs.Cleaning as laws
use Rattle.journal_laws.proofs.clean.clean_stays.Goals as goal

pub returns : goal.returns
returns c = record {
  cut = laws.cut;
  broken_written = laws.broken_written;
  other_files = laws.other_files;
}
