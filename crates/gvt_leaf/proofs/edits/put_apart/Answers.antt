use Rattle.std.proofs.Common.{◌≡◌, ◌≤◌, ◌∷◌, [], sym, subst}
use Rattle.std.specs.FinMap as globals
use Rattle.journal_defs.specs.Leaves.{ROOM}
use Rattle.block_fmt.specs.Cells.{size_of}
use Rattle.gvt_leaf.specs.Chained.{leaf_cells, replaced}
use Rattle.gvt_leaf.proofs.Edited.{put_by, part_fits, cut_fits, part_is}
use Rattle.gvt_leaf.proofs.edits.put_apart.Goals as goal
use Rattle.global_defs.proofs.Basics.{bytes_cmp}

pub put-requires-clause-fits : goal.put-requires-clause-fits
put-requires-clause-fits c =
    let old = c.args.chain.now.leaves in
    let mid = c.split.new.self.leaves in
    let i = c.args.i in
    let key = c.args.key.now in
    let value = c.args.value.now in
    let cut = c.chosen-cut.result in
    subst (λ j. size_of (globals.put bytes_cmp key value (leaf_cells mid j)) ≤ ROOM) (sym (part_is i c.from.result cut.behind c.from.ensures))
    (part_fits old mid mid i cut.at c.args.place key value c.requires.inside c.requires.place c.requires.full c.split.ensures.leaves cut.behind
    (cut_fits c.leaf.result.now.cells (leaf_cells old i) c.args.place key value cut c.leaf.ensures c.chosen-cut.ensures))

pub returns-clause-put : goal.returns-clause-put
returns-clause-put c =
    let old = c.args.chain.now.leaves in
    let mid = c.split.new.self.leaves in
    let new = c.put.new.self.leaves in
    let i = c.args.i in
    let key = c.args.key.now in
    let value = c.args.value.now in
    let cut = c.chosen-cut.result in
    put_by old mid new i cut.at c.args.place key value c.requires.inside c.requires.place c.requires.full c.split.ensures.leaves cut.behind
    (cut_fits c.leaf.result.now.cells (leaf_cells old i) c.args.place key value cut c.leaf.ensures c.chosen-cut.ensures)
    (subst (λ j. new ≡ replaced mid j (globals.put bytes_cmp key value (leaf_cells mid j) ∷ [])) (part_is i c.from.result cut.behind c.from.ensures) c.put.ensures.leaves)
