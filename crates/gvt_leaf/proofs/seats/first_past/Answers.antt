use Rattle.std.proofs.Common.{Some, option_map, List, ap, sym, ◌∙◌, arith}
use Rattle.journal_defs.specs.Leaves.{Cell}
use Rattle.block_fmt.specs.Cells.{cell_at}
use Rattle.gvt_leaf.proofs.Seated.{past_in, past_out, first_from, first_nowhere}
use Rattle.gvt_leaf.proofs.seats.first_past.Goals as goal

pub returns-then-place-len : goal.returns-then-place-len
returns-then-place-len c =
    let place = c.place_past-place.ensures in
    ap Some c.key.ensures
    ∙ sym (past_in c.args.chain.now.leaves c.args.key.now c.seat-i.result c.seat-i.ensures c.leaf-leaf.result.now.cells c.place_past-place.result c.leaf-leaf.ensures (omega (arith, c.if-place-len.true, c.len.ensures.len)) place.before place.behind)

pub returns-then-i-count : goal.returns-then-i-count
returns-then-i-count c =
    let place = c.place_past-place.ensures in
    ap Some (c.key-then-i-count.ensures ∙ ap (λ (l : List Cell). (cell_at l 0).0) c.leaf.ensures)
    ∙ sym (ap (option_map (λ (x : Cell). x.0)) (past_out c.args.chain.now.leaves c.args.key.now c.seat-i.result c.seat-i.ensures c.leaf-leaf.result.now.cells c.place_past-place.result c.leaf-leaf.ensures (omega (arith, c.if-place-len.false, c.len.ensures.len)) place.before
    ∙ first_from c.args.chain.now.leaves c.seat-i.result c.requires (omega (arith, c.if-i-count.true, c.len-count.ensures.len))))

pub returns-else-i-count : goal.returns-else-i-count
returns-else-i-count c =
    let place = c.place_past-place.ensures in
    sym (ap (option_map (λ (x : Cell). x.0)) (past_out c.args.chain.now.leaves c.args.key.now c.seat-i.result c.seat-i.ensures c.leaf-leaf.result.now.cells c.place_past-place.result c.leaf-leaf.ensures (omega (arith, c.if-place-len.false, c.len.ensures.len)) place.before
    ∙ first_nowhere c.args.chain.now.leaves c.seat-i.result (omega (arith, c.if-i-count.false, c.len-count.ensures.len))))
