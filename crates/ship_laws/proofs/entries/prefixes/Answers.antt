use Rattle.ship_laws.proofs.Streams.{front, brought}
use Rattle.ship_laws.proofs.Stamped.{sent_front}
use Rattle.ship_laws.proofs.entries.prefixes.Goals as goal

pub returns-clause-entries : goal.returns-clause-entries
returns-clause-entries c = front

pub returns-clause-received : goal.returns-clause-received
returns-clause-received c = brought

pub returns-clause-sent : goal.returns-clause-sent
returns-clause-sent c = sent_front
