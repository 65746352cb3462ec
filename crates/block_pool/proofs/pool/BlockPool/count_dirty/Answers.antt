use Rattle.std.proofs.Common.{arith}
use Rattle.block_pool.proofs.Pages.{count-marks, fewer_listed}
use Rattle.block_pool.proofs.pool.BlockPool.count_dirty.Goals as goal

pub overflow_cast-result : goal.overflow_cast-result
overflow_cast-result c = omega (arith, c.len.ensures, fewer_listed c.self.inside c.self.invariant, c.self.invariant.few, c.self.inside.pages.ok.0)

pub returns : goal.returns
returns c = omega (arith, c.len.ensures, c.self.inside.changed.ok.0, count-marks c.self.inside c.args.self.now c.self.invariant c.self.view_is)
