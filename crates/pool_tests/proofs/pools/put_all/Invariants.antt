use Rattle.std.proofs.Common.{◌≡◌, ◌+◌, vec_len, vec_capacity}
use Rattle.jnl_pool.specs.Pooling.{next_number}
use Rattle.pool_tests.proofs.pools.put_all.Given as goal

abbrev pub invariant-loop : goal.invariant-loop
invariant-loop l = record {
  pool : l.writer.table ≡ l.pool.table;
  number : next_number l.writer ≡ next_number l.initial.writer + l.counter;
  room : vec_len l.list ≡ vec_len l.initial.list + l.counter;
  capacity : vec_capacity l.list ≡ vec_capacity l.initial.list;
}
