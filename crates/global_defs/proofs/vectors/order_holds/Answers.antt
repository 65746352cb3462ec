use Rattle.global_defs.proofs.Order.{key_total, key_same}
use Rattle.global_defs.proofs.vectors.order_holds.Goals as goal

pub returns-clause-total : goal.returns-clause-total
returns-clause-total c = key_total

pub returns-clause-same : goal.returns-clause-same
returns-clause-same c = key_same
