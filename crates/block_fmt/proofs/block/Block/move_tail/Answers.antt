use Rattle.std.proofs.Common.{◌≡◌, List, length, drop, ◌∙◌, ap, arith, length-drop}
use Rattle.journal_defs.specs.Leaves.{Cell}
use Rattle.block_fmt.specs.Cells.{with_cells}
use Rattle.block_fmt.proofs.CellPlaces.{size_split}
use Rattle.block_fmt.proofs.Held.{holds_view, held_count}
use Rattle.block_fmt.proofs.Changed.{few_held, tail_are_cells, tail_cells, tail_are_places}
use Rattle.block_fmt.proofs.block.Block.move_tail.Goals as goal

pub bytes_from-requires : goal.bytes_from-requires
bytes_from-requires c =
    let h = holds_view c.self.inside c.args.self.now c.self.view_is c.self.invariant in
    omega (arith, c.used_before-at.ensures, ap length c.deref.ensures.value, ap length h.bytes, size_split c.args.from c.args.self.now.cells)

pub places_from-requires : goal.places_from-requires
places_from-requires c =
    let h = holds_view c.self.inside c.args.self.now c.self.view_is c.self.invariant in
    let inside = c.requires.inside in
    omega (arith, inside, ap length c.deref-2.ensures.value, held_count c.self.inside c.args.self.now h)

pub fill-requires-clause-cells : goal.fill-requires-clause-cells
fill-requires-clause-cells c =
    let h = holds_view c.self.inside c.args.self.now c.self.view_is c.self.invariant in
    let bytes_are : c.bytes_from.result.now ≡ drop c.used_before-at.result c.self.inside.bytes.items = c.bytes_from.ensures ∙ ap (drop c.used_before-at.result) c.deref.ensures.value in
    let ps_are : c.places_from.result.now ≡ drop c.args.from c.self.inside.places.items = c.places_from.ensures ∙ ap (drop c.args.from) c.deref-2.ensures.value in
    tail_are_cells c.self.inside c.args.self.now h c.args.from c.used_before-at.result c.bytes_from.result.now c.places_from.result.now c.used_before-at.ensures bytes_are ps_are

pub fill-requires-clause-of : goal.fill-requires-clause-of
fill-requires-clause-of c =
    let h = holds_view c.self.inside c.args.self.now c.self.view_is c.self.invariant in
    let bytes_are : c.bytes_from.result.now ≡ drop c.used_before-at.result c.self.inside.bytes.items = c.bytes_from.ensures ∙ ap (drop c.used_before-at.result) c.deref.ensures.value in
    let ps_are : c.places_from.result.now ≡ drop c.args.from c.self.inside.places.items = c.places_from.ensures ∙ ap (drop c.args.from) c.deref-2.ensures.value in
    tail_are_places c.self.inside c.args.self.now h c.args.from c.used_before-at.result c.bytes_from.result.now c.places_from.result.now c.used_before-at.ensures bytes_are ps_are

pub fill-requires-clause-fit : goal.fill-requires-clause-fit
fill-requires-clause-fit c =
    let h = holds_view c.self.inside c.args.self.now c.self.view_is c.self.invariant in
    let bytes_are : c.bytes_from.result.now ≡ drop c.used_before-at.result c.self.inside.bytes.items = c.bytes_from.ensures ∙ ap (drop c.used_before-at.result) c.deref.ensures.value in
    let ps_are : c.places_from.result.now ≡ drop c.args.from c.self.inside.places.items = c.places_from.ensures ∙ ap (drop c.args.from) c.deref-2.ensures.value in
    omega (arith, ap length bytes_are, length-drop c.used_before-at.result c.self.inside.bytes.items, (few_held c.self.inside c.args.self.now h).1)

pub fill-requires-clause-near : goal.fill-requires-clause-near
fill-requires-clause-near c =
    let h = holds_view c.self.inside c.args.self.now c.self.view_is c.self.invariant in
    let fits = h.form.fits in
    omega (arith, fits, c.used_before-at.ensures, size_split c.args.from c.args.self.now.cells)

pub returns-clause-there : goal.returns-clause-there
returns-clause-there c =
    let h = holds_view c.self.inside c.args.self.now c.self.view_is c.self.invariant in
    let bytes_are : c.bytes_from.result.now ≡ drop c.used_before-at.result c.self.inside.bytes.items = c.bytes_from.ensures ∙ ap (drop c.used_before-at.result) c.deref.ensures.value in
    let ps_are : c.places_from.result.now ≡ drop c.args.from c.self.inside.places.items = c.places_from.ensures ∙ ap (drop c.args.from) c.deref-2.ensures.value in
    c.fill.ensures ∙ ap (λ (cs : List Cell). with_cells c.args.into.now cs) (tail_cells c.self.inside c.args.self.now h c.args.from c.used_before-at.result c.bytes_from.result.now c.places_from.result.now c.used_before-at.ensures bytes_are ps_are)
