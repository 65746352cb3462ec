use Rattle.std.proofs.Common.{◌≡◌}
use Rattle.repl_link.specs.MemEnds.{tx_line, rx_line}
use Rattle.recv_pool.specs.Pools.{IsPool}
use Rattle.handshake_tests.proofs.received.heard.Given as goal

abbrev pub invariant-loop : goal.invariant-loop
invariant-loop l = record {
  pool : IsPool l.into l.out;
  up : tx_line l.ends.up_tx ≡ rx_line l.ends.down_rx;
  down : tx_line l.ends.down_tx ≡ rx_line l.ends.up_rx;
  up_sessions : (l.ends.up_tx.session ≡ 0) × (l.ends.down_rx.session ≡ 0);
  down_sessions : (l.ends.down_tx.session ≡ 0) × (l.ends.up_rx.session ≡ 0);
  one : l.ends.up_tx.connection ≡ l.ends.down_tx.connection;
}
