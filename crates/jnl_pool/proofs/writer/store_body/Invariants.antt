use Rattle.std.proofs.Common.{◌≡◌, ◌+◌}
use Rattle.jnl_pool.proofs.writer.store_body.Given as goal

abbrev pub invariant-loop-i : goal.invariant-loop-i
invariant-loop-i l = record {
  table : l.seat.table ≡ l.initial.seat.table;
  view : l.seat.view ≡ record l.initial.seat.view { written = l.from + l.i };
}
