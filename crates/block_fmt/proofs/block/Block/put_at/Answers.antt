use Rattle.std.proofs.Common.{◌<◌, ◌+◌, length, refl, arith}
use Rattle.block_fmt.specs.Cells.{with_cell}
use Rattle.block_fmt.specs.declared.block.Block.TheInside.{Inside}
use Rattle.block_fmt.proofs.ReadBack.{length-spelled_cell}
use Rattle.block_fmt.proofs.CellPlaces.{size_grows, size_split, key_length}
use Rattle.block_fmt.proofs.Held.{holds_view, holds_own, held, held_place, place_count, byte_count}
use Rattle.block_fmt.proofs.Changed.{put_holds, put_size, put_form, put_few, tail_can_move}
use Rattle.block_fmt.proofs.block.Block.put_at.Goals as goal

pub put_between-requires-clause-order : goal.put_between-requires-clause-order
put_between-requires-clause-order c =
    let t = c.taken-i.ensures.taken in
    omega (arith, c.used_before-from.ensures, c.used_before-to.ensures, size_grows c.taken-i.result.0 c.taken-i.result.1 c.args.self.now.cells t.order)

pub put_between-requires-clause-inside : goal.put_between-requires-clause-inside
put_between-requires-clause-inside c =
    let h = holds_view c.self.inside c.args.self.now c.self.view_is c.self.invariant in
    let t = c.taken-i.ensures.taken in
    let cs = c.args.self.now.cells in
    let size = put_size cs c.args.key.now c.args.value.now c.taken-i.result.0 c.taken-i.result.1 t in
    let split = size_split c.taken-i.result.1 cs in
    let grows = size_grows c.taken-i.result.0 c.taken-i.result.1 cs t.order in
    let from = c.used_before-from.ensures in
    let to = c.used_before-to.ensures in
    let fits = c.requires.fits in
    omega (arith, to, split, byte_count c.self.inside c.args.self.now h)

pub put_between-requires-clause-key : goal.put_between-requires-clause-key
put_between-requires-clause-key c = (key_length c.args.key.now c.requires.key).1

pub put_between-requires-clause-room : goal.put_between-requires-clause-room
put_between-requires-clause-room c =
    let h = holds_view c.self.inside c.args.self.now c.self.view_is c.self.invariant in
    let t = c.taken-i.ensures.taken in
    let cs = c.args.self.now.cells in
    let size = put_size cs c.args.key.now c.args.value.now c.taken-i.result.0 c.taken-i.result.1 t in
    let split = size_split c.taken-i.result.1 cs in
    let grows = size_grows c.taken-i.result.0 c.taken-i.result.1 cs t.order in
    let from = c.used_before-from.ensures in
    let to = c.used_before-to.ensures in
    let fits = c.requires.fits in
    let room = h.byte_room in
    omega (arith, to, from, split, size, grows, fits, room, byte_count c.self.inside c.args.self.now h, length-spelled_cell (c.args.key.now, c.args.value.now))

pub put_place-requires-clause-inside : goal.put_place-requires-clause-inside
put_place-requires-clause-inside c =
    let h = holds_view c.self.inside c.args.self.now c.self.view_is c.self.invariant in
    let t = c.taken-i.ensures.taken in
    let cs = c.args.self.now.cells in
    let size = put_size cs c.args.key.now c.args.value.now c.taken-i.result.0 c.taken-i.result.1 t in
    let split = size_split c.taken-i.result.1 cs in
    let grows = size_grows c.taken-i.result.0 c.taken-i.result.1 cs t.order in
    let from = c.used_before-from.ensures in
    let to = c.used_before-to.ensures in
    let fits = c.requires.fits in
    let inside = t.inside in
    omega (arith, inside, place_count c.self.inside c.args.self.now h)

pub put_place-requires-clause-here : goal.put_place-requires-clause-here
put_place-requires-clause-here c less =
    let h = holds_view c.self.inside c.args.self.now c.self.view_is c.self.invariant in
    let t = c.taken-i.ensures.taken in
    let cs = c.args.self.now.cells in
    let size = put_size cs c.args.key.now c.args.value.now c.taken-i.result.0 c.taken-i.result.1 t in
    let split = size_split c.taken-i.result.1 cs in
    let grows = size_grows c.taken-i.result.0 c.taken-i.result.1 cs t.order in
    let from = c.used_before-from.ensures in
    let to = c.used_before-to.ensures in
    let fits = c.requires.fits in
    let inside = t.inside in
    let there : c.taken-i.result.0 < length cs = omega (arith, less, inside) in
    omega (arith, from, held_place c.self.inside c.args.self.now c.taken-i.result.0 0 h there)

pub put_place-requires-clause-can : goal.put_place-requires-clause-can
put_place-requires-clause-can c =
    let h = holds_view c.self.inside c.args.self.now c.self.view_is c.self.invariant in
    let t = c.taken-i.ensures.taken in
    let cs = c.args.self.now.cells in
    let size = put_size cs c.args.key.now c.args.value.now c.taken-i.result.0 c.taken-i.result.1 t in
    let split = size_split c.taken-i.result.1 cs in
    let grows = size_grows c.taken-i.result.0 c.taken-i.result.1 cs t.order in
    let from = c.used_before-from.ensures in
    let to = c.used_before-to.ensures in
    let fits = c.requires.fits in
    tail_can_move cs c.self.inside.places.items c.taken-i.result.1 c.used_before-to.result (c.used_before-from.result + (length c.args.key.now + length c.args.value.now + 3)) h.places to (omega (arith, from, split, size, grows, fits))

pub put_place-requires-clause-room : goal.put_place-requires-clause-room
put_place-requires-clause-room c none =
    let h = holds_view c.self.inside c.args.self.now c.self.view_is c.self.invariant in
    let t = c.taken-i.ensures.taken in
    let cs = c.args.self.now.cells in
    let size = put_size cs c.args.key.now c.args.value.now c.taken-i.result.0 c.taken-i.result.1 t in
    let split = size_split c.taken-i.result.1 cs in
    let grows = size_grows c.taken-i.result.0 c.taken-i.result.1 cs t.order in
    let from = c.used_before-from.ensures in
    let to = c.used_before-to.ensures in
    let fits = c.requires.fits in
    let room = h.place_room in
    let few = put_few c.args.self.now c.args.key.now c.args.value.now c.taken-i.result.0 c.taken-i.result.1 t (put_form c.args.self.now c.args.key.now c.args.value.now c.taken-i.result.0 c.taken-i.result.1 h.form t c.requires.key c.requires.value fits) none in
    omega (arith, room, few, place_count c.self.inside c.args.self.now h)

pub invariant_of-self : goal.invariant_of-self
invariant_of-self c =
    let h = holds_view c.self.inside c.args.self.now c.self.view_is c.self.invariant in
    let made : Inside = record { next = c.self.inside.next; bytes = c.put_between.new.bytes; places = c.put_place.new.places } in
    holds_own made (with_cell c.args.self.now c.args.key.now c.args.value.now) (put_holds c.self.inside made c.args.self.now h refl c.put_between.ensures.capacity c.put_place.ensures.capacity c.args.key.now c.args.value.now c.taken-i.result.0 c.taken-i.result.1 c.used_before-from.result c.used_before-to.result
    (length c.args.key.now + length c.args.value.now + 3) c.taken-i.ensures.taken c.used_before-from.ensures c.used_before-to.ensures refl c.requires.key c.requires.value c.requires.fits c.put_between.ensures.items c.put_place.ensures.items)

pub returns : goal.returns
returns c =
    let h = holds_view c.self.inside c.args.self.now c.self.view_is c.self.invariant in
    let made : Inside = record { next = c.self.inside.next; bytes = c.put_between.new.bytes; places = c.put_place.new.places } in
    held made (with_cell c.args.self.now c.args.key.now c.args.value.now) (put_holds c.self.inside made c.args.self.now h refl c.put_between.ensures.capacity c.put_place.ensures.capacity c.args.key.now c.args.value.now c.taken-i.result.0 c.taken-i.result.1 c.used_before-from.result c.used_before-to.result
    (length c.args.key.now + length c.args.value.now + 3) c.taken-i.ensures.taken c.used_before-from.ensures c.used_before-to.ensures refl c.requires.key c.requires.value c.requires.fits c.put_between.ensures.items c.put_place.ensures.items)
