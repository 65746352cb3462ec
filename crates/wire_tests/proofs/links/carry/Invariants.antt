use Rattle.std.proofs.Common.{◌≡◌}
use Rattle.repl_link.specs.MemEnds.{tx_line, rx_line}
use Rattle.wire_tests.proofs.links.carry.Given as goal

abbrev pub invariant-loop : goal.invariant-loop
invariant-loop l = record {
  up : tx_line l.ends.up_tx ≡ rx_line l.ends.down_rx;
  down : tx_line l.ends.down_tx ≡ rx_line l.ends.up_rx;
  up_sessions : (l.ends.up_tx.session ≡ l.session) × (l.ends.down_rx.session ≡ l.session);
  down_sessions : (l.ends.down_tx.session ≡ l.session) × (l.ends.up_rx.session ≡ l.session);
  one : l.ends.up_tx.connection ≡ l.ends.down_tx.connection;
}

abbrev pub invariant-loop-2 : goal.invariant-loop-2
invariant-loop-2 l = record {
  up : tx_line l.ends.up_tx ≡ rx_line l.ends.down_rx;
  down : tx_line l.ends.down_tx ≡ rx_line l.ends.up_rx;
  up_sessions : (l.ends.up_tx.session ≡ l.session) × (l.ends.down_rx.session ≡ l.session);
  down_sessions : (l.ends.down_tx.session ≡ l.session) × (l.ends.up_rx.session ≡ l.session);
  one : l.ends.up_tx.connection ≡ l.ends.down_tx.connection;
}
