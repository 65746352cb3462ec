use Rattle.std.proofs.Common.{◌≡◌, ◌≤◌, ◌+◌, ◌-◌}
use Rattle.pool_tests.proofs.pools.take_missed.Given as goal

abbrev pub invariant-loop-number : goal.invariant-loop-number
invariant-loop-number l = record {
  writer : l.writer.table ≡ l.pool.table;
  reader : l.reader.table ≡ l.pool.table;
  start : l.first ≤ l.number;
  stop : l.number ≤ l.end;
  once : l.read + l.taken ≤ l.number - l.first;
}
