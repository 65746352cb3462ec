use Rattle.std.proofs.Common.{rules}
use Rattle.pool_rule.proofs.Keeps.{claims}
use Rattle.pool_rule.proofs.table.PoolTable.claim_as.Goals as goal

pub store-requires : goal.store-requires
store-requires g c = (search rules, search rules, claims _ _ _ _ _ _ _ c.requires.writer.0 c.requires.writer.1 c.requires.bytes c.requires.count)
