use Rattle.std.proofs.Common.{◌≡◌}
use Rattle.wire_tests.proofs.links.send_all.Given as goal

abbrev pub invariant-loop : goal.invariant-loop
invariant-loop g l = record {
  line : g.T.LinkTx.line l.tx ≡ g.T.LinkTx.line l.initial.tx;
  connection : (g.T.LinkTx.sending l.tx).connection ≡ (g.T.LinkTx.sending l.initial.tx).connection;
}
