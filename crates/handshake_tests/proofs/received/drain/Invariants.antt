use Rattle.recv_pool.specs.Pools.{SameOut}
use Rattle.handshake_tests.proofs.received.drain.Given as goal

abbrev pub invariant-loop : goal.invariant-loop
invariant-loop l = SameOut l.initial.pool l.pool
