use Rattle.std.proofs.Common.{◌≡◌, ◌≤◌}
use Rattle.pool_tests.proofs.pools.read_some.Given as goal

abbrev pub invariant-loop : goal.invariant-loop
invariant-loop l = record {
  pool : l.reader.table ≡ l.pool.table;
  number : l.number ≤ l.end;
}
