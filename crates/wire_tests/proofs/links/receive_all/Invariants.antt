use Rattle.std.proofs.Common.{◌≡◌}
use Rattle.wire_tests.proofs.links.receive_all.Given as goal

abbrev pub invariant-loop : goal.invariant-loop
invariant-loop g l = g.U.LinkRx.line l.rx ≡ g.U.LinkRx.line l.initial.rx
