use Rattle.std.proofs.Common.{◌≡◌, true, List, ℕ, nat_eq, ap, sym, ◌∙◌, arith}
use Rattle.std.specs.List.{starts_with}
use Rattle.block_fmt.specs.Cells.{cell_at}
use Rattle.gvt_leaf.proofs.Runs.{all_more}
use Rattle.gvt_leaf.proofs.edits.run_end.Goals as goal

pub loop-end-preserved : goal.loop-end-preserved
loop-end-preserved c =
    let i = c.loop-end.invariant in
    let cells = c.args.leaf.now.cells in
    let here : starts_with nat_eq (cell_at cells c.loop-end.end).0 c.args.code.now ≡ true =
    ap (λ (k : List ℕ). starts_with nat_eq k c.args.code.now) (sym c.key.ensures) ∙ sym c.if-starts_with.ensures.value in
    record {
      order = omega (arith, i.order);
      inside = omega (arith, c.loop-end-test.true, c.len-count.ensures.len);
      run = all_more (λ x. starts_with nat_eq x.0 c.args.code.now ≡ true) cells c.args.from c.loop-end.end i.order (omega (arith, c.loop-end-test.true, c.len-count.ensures.len)) i.run here;
    }
