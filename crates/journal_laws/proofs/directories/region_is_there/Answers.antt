use Rattle.journal_laws.proofs.Regions.{below}
use Rattle.journal_laws.proofs.directories.region_is_there.Goals as goal

pub returns : goal.returns
returns c = below
