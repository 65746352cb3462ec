use Rattle.ship_laws.proofs.Streams.{shipped_is, resumed_is}
use Rattle.ship_laws.proofs.entries.bytes_are_frames.Goals as goal

pub returns-clause-shipped : goal.returns-clause-shipped
returns-clause-shipped c = shipped_is

pub returns-clause-resumed : goal.returns-clause-resumed
returns-clause-resumed c = resumed_is
