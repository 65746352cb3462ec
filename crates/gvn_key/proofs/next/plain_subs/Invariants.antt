use Rattle.gvn_key.proofs.Behind.{AreReadTo}
use Rattle.gvn_key.proofs.next.plain_subs.Given as goal

abbrev pub invariant-loop : goal.invariant-loop
invariant-loop l = AreReadTo l.bytes l.end l.counter l.at l.seen
