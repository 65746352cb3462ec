use Rattle.std.proofs.Common.{take, arith, refl}
use Rattle.block_fmt.specs.Cells.{with_cells}
use Rattle.block_fmt.specs.declared.block.Block.TheInside.{Inside}
use Rattle.block_fmt.proofs.Held.{holds_view, holds_own, held}
use Rattle.block_fmt.proofs.Changed.{take_holds}
use Rattle.block_fmt.proofs.block.Block.keep.Goals as goal

pub invariant_of-self : goal.invariant_of-self
invariant_of-self c =
    let h = holds_view c.self.inside c.args.self.now c.self.view_is c.self.invariant in
    let made : Inside = record { next = c.self.inside.next; bytes = c.truncate.new.self; places = c.truncate-2.new.self } in
    let bytes = c.truncate.ensures.capacity in
    let cells = c.truncate-2.ensures.capacity in
    holds_own made (with_cells c.args.self.now (take c.args.count c.args.self.now.cells))
    (take_holds c.self.inside made c.args.self.now h refl (omega (arith, bytes)) (omega (arith, cells)) c.args.count c.used_before-end.result c.used_before-end.ensures c.truncate.ensures.items c.truncate-2.ensures.items)

pub returns : goal.returns
returns c =
    let h = holds_view c.self.inside c.args.self.now c.self.view_is c.self.invariant in
    let made : Inside = record { next = c.self.inside.next; bytes = c.truncate.new.self; places = c.truncate-2.new.self } in
    let bytes = c.truncate.ensures.capacity in
    let cells = c.truncate-2.ensures.capacity in
    held made (with_cells c.args.self.now (take c.args.count c.args.self.now.cells))
    (take_holds c.self.inside made c.args.self.now h refl (omega (arith, bytes)) (omega (arith, cells)) c.args.count c.used_before-end.result c.used_before-end.ensures c.truncate.ensures.items c.truncate-2.ensures.items)
