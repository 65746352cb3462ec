use Rattle.ship_laws.proofs.Streams.{once}
use Rattle.ship_laws.proofs.entries.entries_once.Goals as goal

pub returns : goal.returns
returns c = once
