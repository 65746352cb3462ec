use Rattle.std.proofs.Common.{◌≡◌, ◌+◌}
use Rattle.jnl_pool.specs.Pooling.{next_number}
use Rattle.pool_bench.proofs.put_all.Given as goal

abbrev pub invariant-loop : goal.invariant-loop
invariant-loop g l = record {
  pool : l.writer.table ≡ l.pool.table;
  number : next_number l.writer ≡ next_number l.initial.writer + l.counter;
}
