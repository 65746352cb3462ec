use Rattle.std.proofs.Common.{◌<◌, ◌≤◌, length, arith}
use Rattle.block_fmt.proofs.Held.{holds_view, place_count, byte_count, held_place, all_size}
use Rattle.block_fmt.proofs.block.Block.used_before.Goals as goal

pub returns-then-i-len : goal.returns-then-i-len
returns-then-i-len c =
    let h = holds_view c.self.inside c.args.self.now c.self.view_is c.self.invariant in
    let inside : c.args.i < length c.args.self.now.cells = omega (arith, c.if-i-len.true, c.len.ensures, place_count c.self.inside c.args.self.now h) in
    omega (arith, c.from.ensures, c.index.ensures, held_place c.self.inside c.args.self.now c.args.i c.index.result.now h inside)

pub returns-else-i-len : goal.returns-else-i-len
returns-else-i-len c =
    let h = holds_view c.self.inside c.args.self.now c.self.view_is c.self.invariant in
    let all : length c.args.self.now.cells ≤ c.args.i = omega (arith, c.if-i-len.false, c.len.ensures, place_count c.self.inside c.args.self.now h) in
    omega (arith, c.len-else-i-len.ensures, byte_count c.self.inside c.args.self.now h, all_size c.args.self.now c.args.i all)
