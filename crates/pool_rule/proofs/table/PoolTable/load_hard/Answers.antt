use Rattle.std.proofs.Common.{rules}
use Rattle.pool_rule.proofs.Keeps.{loads_hard}
use Rattle.pool_rule.proofs.table.PoolTable.load_hard.Goals as goal

pub load-requires : goal.load-requires
load-requires c = (search rules, search rules, loads_hard _ _ _ _ _ c.r.invariant.0)
