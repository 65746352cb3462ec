use Rattle.std.proofs.Common.{arith}
use Rattle.block_pool.proofs.Pages.{fewer_listed}
use Rattle.block_pool.proofs.pool.BlockPool.reserve.Goals as goal

pub overflow_sub-len-2 : goal.overflow_sub-len-2
overflow_sub-len-2 c = omega (arith, c.len-2.ensures, c.len-3.ensures, c.reserve.ensures.len, fewer_listed c.self.inside c.self.invariant)
