use Rattle.std.proofs.Common.{arith}
use Rattle.block_fmt.proofs.Held.{holds_view}
use Rattle.block_fmt.proofs.Changed.{few_held}
use Rattle.block_fmt.proofs.block.Block.remove.Goals as goal

pub overflow_add-i : goal.overflow_add-i
overflow_add-i c =
    let h = holds_view c.self.inside c.args.self.now c.self.view_is c.self.invariant in
    omega (arith, c.requires, (few_held c.self.inside c.args.self.now h).0)
