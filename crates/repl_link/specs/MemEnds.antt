-- What contracts see of the ends of a link in memory.
use Rattle.std.specs.Prelude.{◌+◌, ◌-◌, ◌++◌, true, [], length, option_map, if◌then◌else◌}
use Rattle.rtrb.specs.Ring.{sent as items_sent, received as items_received, known_free, known_items}
use Rattle.wire_defs.specs.Links.{Sending, Receiving}
use Rattle.repl_link.specs.Items.{bytes_of, has_end}
use Rattle.repl_link.specs.declared.items.Line.{Line}
use Rattle.repl_link.specs.declared.mem_tx.MemTx.{MemTx}
use Rattle.repl_link.specs.declared.mem_rx.MemRx.{MemRx}

-- the ring of an end
abbrev pub tx_line : MemTx → Line
tx_line t = record { words = t.ring.end.words; slots = t.ring.end.slots; names = t.ring.end.names; heap = t.ring.end.heap }

abbrev pub rx_line : MemRx → Line
rx_line r = record { words = r.ring.end.words; slots = r.ring.end.slots; names = r.ring.end.names; heap = r.ring.end.heap }

abbrev pub mem_sending : MemTx → Sending
mem_sending t = record {
  session = t.session;
  connection = t.connection;
  told = true;
  order = option_map (λ left. left + length (bytes_of (items_sent t.ring))) t.left;
  places = 4096;
  cuts = t.cuts;
  patience = 0;
  sent = bytes_of (items_sent t.ring);
  free = if t.finished then 0 else known_free t.ring - 1;
  finished = t.finished;
}

abbrev pub mem_receiving : MemRx → Receiving
mem_receiving r = record {
  session = r.session;
  connection = r.connection;
  told = true;
  shown = true;
  order = option_map (λ left. left + length (bytes_of (items_received r.ring))) r.left;
  cuts = r.cuts;
  patience = 0;
  received = bytes_of (items_received r.ring);
  unread = if r.ended then [] else bytes_of (known_items r.ring);
  ended = has_end (items_received r.ring ++ known_items r.ring);
  closed = r.closed;
}
