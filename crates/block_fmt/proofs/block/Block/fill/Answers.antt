use Rattle.std.proofs.Common.{length, refl, ap, arith}
use Rattle.block_fmt.specs.Cells.{with_cells}
use Rattle.block_fmt.specs.Read.{cells_in}
use Rattle.block_fmt.specs.declared.block.Block.TheInside.{Inside}
use Rattle.block_fmt.proofs.Held.{holds_view, holds_own, held, place_count}
use Rattle.block_fmt.proofs.Changed.{fill_holds, filled_behind, filled_count}
use Rattle.block_fmt.proofs.block.Block.fill.Goals as goal

pub push_places-requires-clause-behind : goal.push_places-requires-clause-behind
push_places-requires-clause-behind c = filled_behind (length c.args.of.now) c.args.back c.args.bytes.now c.args.of.now c.requires.of

pub push_places-requires-clause-room : goal.push_places-requires-clause-room
push_places-requires-clause-room c =
    let h = holds_view c.self.inside c.args.self.now c.self.view_is c.self.invariant in
    let room = h.place_room in
    omega (arith, room, place_count c.self.inside c.args.self.now h, ap length c.requires.empty, filled_count (length c.args.of.now) c.args.bytes.now c.requires.cells c.requires.fit)

pub invariant_of-self : goal.invariant_of-self
invariant_of-self c =
    let h = holds_view c.self.inside c.args.self.now c.self.view_is c.self.invariant in
    let made : Inside = record { next = c.self.inside.next; bytes = c.push_all.new.bytes; places = c.push_places.new.places } in
    holds_own made (with_cells c.args.self.now (cells_in (length c.args.of.now) c.args.bytes.now)) (fill_holds c.self.inside made c.args.self.now h refl c.push_all.ensures.capacity c.push_places.ensures.capacity (length c.args.of.now) c.args.back c.args.bytes.now c.args.of.now c.requires.empty c.requires.cells c.requires.fit c.requires.of c.push_all.ensures.items c.push_places.ensures.items)

pub returns : goal.returns
returns c =
    let h = holds_view c.self.inside c.args.self.now c.self.view_is c.self.invariant in
    let made : Inside = record { next = c.self.inside.next; bytes = c.push_all.new.bytes; places = c.push_places.new.places } in
    held made (with_cells c.args.self.now (cells_in (length c.args.of.now) c.args.bytes.now)) (fill_holds c.self.inside made c.args.self.now h refl c.push_all.ensures.capacity c.push_places.ensures.capacity (length c.args.of.now) c.args.back c.args.bytes.now c.args.of.now c.requires.empty c.requires.cells c.requires.fit c.requires.of c.push_all.ensures.items c.push_places.ensures.items)
