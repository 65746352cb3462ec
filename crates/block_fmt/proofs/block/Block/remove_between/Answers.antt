use Rattle.std.proofs.Common.{refl, arith}
use Rattle.block_fmt.specs.Cells.{with_cells, without_between}
use Rattle.block_fmt.specs.declared.block.Block.TheInside.{Inside}
use Rattle.block_fmt.proofs.CellPlaces.{size_grows, size_split}
use Rattle.block_fmt.proofs.Held.{holds_view, holds_own, held, place_count, byte_count}
use Rattle.block_fmt.proofs.Changed.{cut_holds, tail_can_move}
use Rattle.block_fmt.proofs.block.Block.remove_between.Goals as goal

pub cut_between-requires-clause-order : goal.cut_between-requires-clause-order
cut_between-requires-clause-order c = omega (arith, c.used_before-first.ensures, c.used_before-end.ensures, size_grows c.args.from c.args.to c.args.self.now.cells c.requires.order)

pub cut_between-requires-clause-inside : goal.cut_between-requires-clause-inside
cut_between-requires-clause-inside c =
    let h = holds_view c.self.inside c.args.self.now c.self.view_is c.self.invariant in
    omega (arith, c.used_before-end.ensures, byte_count c.self.inside c.args.self.now h, size_split c.args.to c.args.self.now.cells)

pub cut_places-requires-clause-inside : goal.cut_places-requires-clause-inside
cut_places-requires-clause-inside c =
    let h = holds_view c.self.inside c.args.self.now c.self.view_is c.self.invariant in
    let inside = c.requires.inside in
    omega (arith, inside, place_count c.self.inside c.args.self.now h)

pub cut_places-requires-clause-near : goal.cut_places-requires-clause-near
cut_places-requires-clause-near c =
    let h = holds_view c.self.inside c.args.self.now c.self.view_is c.self.invariant in
    let fits = h.form.fits in
    omega (arith, fits, c.used_before-first.ensures, size_split c.args.from c.args.self.now.cells)

pub cut_places-requires-clause-can : goal.cut_places-requires-clause-can
cut_places-requires-clause-can c =
    let h = holds_view c.self.inside c.args.self.now c.self.view_is c.self.invariant in
    let fits = h.form.fits in
    tail_can_move c.args.self.now.cells c.self.inside.places.items c.args.to c.used_before-end.result c.used_before-first.result h.places c.used_before-end.ensures
    (omega (arith, fits, c.used_before-first.ensures, size_split c.args.from c.args.self.now.cells, size_split c.args.to c.args.self.now.cells, size_grows c.args.from c.args.to c.args.self.now.cells c.requires.order))

pub invariant_of-self : goal.invariant_of-self
invariant_of-self c =
    let h = holds_view c.self.inside c.args.self.now c.self.view_is c.self.invariant in
    let made : Inside = record { next = c.self.inside.next; bytes = c.cut_between.new.bytes; places = c.cut_places.new.places } in
    holds_own made (with_cells c.args.self.now (without_between c.args.self.now.cells c.args.from c.args.to)) (cut_holds c.self.inside made c.args.self.now h refl c.cut_between.ensures.capacity c.cut_places.ensures.capacity c.args.from c.args.to c.used_before-first.result c.used_before-end.result c.requires.order c.used_before-first.ensures c.used_before-end.ensures c.cut_between.ensures.items c.cut_places.ensures.items)

pub returns : goal.returns
returns c =
    let h = holds_view c.self.inside c.args.self.now c.self.view_is c.self.invariant in
    let made : Inside = record { next = c.self.inside.next; bytes = c.cut_between.new.bytes; places = c.cut_places.new.places } in
    held made (with_cells c.args.self.now (without_between c.args.self.now.cells c.args.from c.args.to)) (cut_holds c.self.inside made c.args.self.now h refl c.cut_between.ensures.capacity c.cut_places.ensures.capacity c.args.from c.args.to c.used_before-first.result c.used_before-end.result c.requires.order c.used_before-first.ensures c.used_before-end.ensures c.cut_between.ensures.items c.cut_places.ensures.items)
