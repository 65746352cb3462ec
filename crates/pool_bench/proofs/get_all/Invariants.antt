use Rattle.std.proofs.Common.{◌≡◌}
use Rattle.pool_bench.proofs.get_all.Given as goal

abbrev pub invariant-loop : goal.invariant-loop
invariant-loop g l = l.reader.table ≡ l.pool.table
