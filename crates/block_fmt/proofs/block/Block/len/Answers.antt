use Rattle.std.proofs.Common.{arith}
use Rattle.block_fmt.specs.Inside.{leaf_of}
use Rattle.block_fmt.proofs.Held.{place_count, holds_view}
use Rattle.block_fmt.proofs.Changed.{few_held}
use Rattle.block_fmt.proofs.block.Block.len.Goals as goal

pub overflow_cast-result : goal.overflow_cast-result
overflow_cast-result c = omega (arith, c.len.ensures, place_count c.self.inside (leaf_of c.self.inside) c.self.invariant, (few_held c.self.inside (leaf_of c.self.inside) c.self.invariant).0)

pub returns-clause-len : goal.returns-clause-len
returns-clause-len c = omega (arith, c.len.ensures, place_count c.self.inside c.args.self.now (holds_view c.self.inside c.args.self.now c.self.view_is c.self.invariant))
