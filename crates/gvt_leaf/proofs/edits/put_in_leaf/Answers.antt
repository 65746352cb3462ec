use Rattle.std.proofs.Common.{◌<◌, List, ap, sym, subst, arith}
use Rattle.std.specs.Prelude.{IfOk, IfErr}
use Rattle.std.specs.FinMap as globals
use Rattle.journal_defs.specs.Leaves.{Cell, ROOM}
use Rattle.block_fmt.specs.Cells.{size_of, StandsIn, BelongsAt}
use Rattle.gvt_leaf.specs.Chained.{leaf_cells}
use Rattle.gvt_leaf.proofs.Edited.{not_fits, put_alone, opened_full, opened_inside, opened_belongs, opened_put}
use Rattle.gvt_leaf.proofs.edits.put_in_leaf.Goals as goal
use Rattle.global_defs.proofs.Basics.{bytes_cmp}

pub returns-then-fits_at-clause-put : goal.returns-then-fits_at-clause-put
returns-then-fits_at-clause-put c = put_alone c.args.chain.now.leaves c.put_at.new.self.leaves c.args.i c.args.key.now c.args.value.now c.put_at.ensures.leaves

pub fits_at-requires-clause-found : goal.fits_at-requires-clause-found
fits_at-requires-clause-found c = subst (λ (l : List Cell). IfOk c.args.place (StandsIn l c.args.key.now)) (sym c.leaf.ensures) c.requires.found

pub fits_at-requires-clause-place : goal.fits_at-requires-clause-place
fits_at-requires-clause-place c = subst (λ (l : List Cell). IfErr c.args.place (BelongsAt l c.args.key.now)) (sym c.leaf.ensures) c.requires.place

pub put_apart-requires-clause-full : goal.put_apart-requires-clause-full
put_apart-requires-clause-full c =
    let n = size_of (globals.put bytes_cmp c.args.key.now c.args.value.now c.leaf.result.now.cells) in
    let full : ROOM < size_of (globals.put bytes_cmp c.args.key.now c.args.value.now (leaf_cells c.args.chain.now.leaves c.args.i)) =
    omega (arith, not_fits c.fits_at.result n c.fits_at.ensures c.if-fits_at.false, ap (λ (l : List Cell). size_of (globals.put bytes_cmp c.args.key.now c.args.value.now l)) c.leaf.ensures) in
    opened_full c.args.chain.now.leaves c.open_place-place.new.chain.leaves c.args.i c.args.key.now c.args.value.now c.open_place-place.result c.requires.inside c.open_place-place.ensures.opened full

pub put_apart-requires-clause-inside : goal.put_apart-requires-clause-inside
put_apart-requires-clause-inside c =
    opened_inside c.args.chain.now.leaves c.open_place-place.new.chain.leaves c.args.i c.args.key.now c.args.value.now c.open_place-place.result c.requires.inside c.open_place-place.ensures.opened

pub put_apart-requires-clause-place : goal.put_apart-requires-clause-place
put_apart-requires-clause-place c =
    opened_belongs c.args.chain.now.leaves c.open_place-place.new.chain.leaves c.args.i c.args.key.now c.args.value.now c.open_place-place.result c.requires.inside c.open_place-place.ensures.opened

pub returns-else-fits_at-clause-put : goal.returns-else-fits_at-clause-put
returns-else-fits_at-clause-put c =
    opened_put c.args.chain.now.leaves c.open_place-place.new.chain.leaves c.args.i c.args.key.now c.args.value.now c.open_place-place.result c.requires.inside c.open_place-place.ensures.opened c.put_apart.new.chain.leaves c.put_apart.ensures.put
