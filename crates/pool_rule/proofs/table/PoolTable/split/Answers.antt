use Rattle.std.proofs.Common.{rules}
use Rattle.pool_rule.proofs.Keeps.{splits}
use Rattle.pool_rule.proofs.table.PoolTable.split.Goals as goal

pub split_seat-seat-requires : goal.split_seat-seat-requires
split_seat-seat-requires c = (search rules, search rules, splits _ _ _ _ c.w.invariant.0)
