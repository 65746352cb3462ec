use Rattle.std.proofs.Common.{◌≡◌, ◌+◌, ◌-◌, ◌/◌, List, ℕ, arith, ap, ◌∙◌, sym}
use Rattle.std.specs.declared.cmp.Ordering.TheVariants.{Less, Equal, Greater}
use Rattle.std.specs.Ordering.{nat_cmp}
use Rattle.std.specs.Cmp.Lexicographic.{slice_cmp}
use Rattle.block_fmt.specs.Cells.{cell_at}
use Rattle.block_fmt.proofs.Order.{rise_behind, rise_above, rise_stands, find_stands, find_belongs, belongs}
use Rattle.block_fmt.proofs.block.Block.find.Goals as goal

pub loop-low-preserved-in-Less : goal.loop-low-preserved-in-Less
loop-low-preserved-in-Less c =
    let cs = c.args.self.now.cells in
    let key = c.args.key.now in
    let m = c.loop-low.low + (c.loop-low.high - c.loop-low.low) / 2 in
    let top = c.loop-low.invariant.inside in
    let test = c.loop-low-test.true in
    let is : slice_cmp nat_cmp (cell_at cs m).0 key ≡ Less = ap (λ (k : List ℕ). slice_cmp nat_cmp k key) (sym c.key.ensures) ∙ sym c.cmp.ensures ∙ c.in-Less.is in
    record {
      order = omega (arith, test);
      inside = top;
      below = rise_behind cs m key c.len-high.ensures.form.rising (omega (arith, test, top)) is;
      above = c.loop-low.invariant.above;
    }

pub returns-in-Equal-clause-found : goal.returns-in-Equal-clause-found
returns-in-Equal-clause-found c =
    let cs = c.args.self.now.cells in
    let key = c.args.key.now in
    let m = c.loop-low.low + (c.loop-low.high - c.loop-low.low) / 2 in
    let top = c.loop-low.invariant.inside in
    let test = c.loop-low-test.true in
    let is : slice_cmp nat_cmp (cell_at cs m).0 key ≡ Equal = ap (λ (k : List ℕ). slice_cmp nat_cmp k key) (sym c.key.ensures) ∙ sym c.cmp.ensures ∙ c.in-Equal.is in
    rise_stands cs m key c.len-high.ensures.form.rising (omega (arith, test, top)) is

pub returns-in-Equal-clause-value : goal.returns-in-Equal-clause-value
returns-in-Equal-clause-value c =
    let cs = c.args.self.now.cells in
    let key = c.args.key.now in
    let m = c.loop-low.low + (c.loop-low.high - c.loop-low.low) / 2 in
    let top = c.loop-low.invariant.inside in
    let test = c.loop-low-test.true in
    let is : slice_cmp nat_cmp (cell_at cs m).0 key ≡ Equal = ap (λ (k : List ℕ). slice_cmp nat_cmp k key) (sym c.key.ensures) ∙ sym c.cmp.ensures ∙ c.in-Equal.is in
    find_stands cs key m (rise_stands cs m key c.len-high.ensures.form.rising (omega (arith, test, top)) is)

pub loop-low-preserved : goal.loop-low-preserved
loop-low-preserved c =
    let cs = c.args.self.now.cells in
    let key = c.args.key.now in
    let m = c.loop-low.low + (c.loop-low.high - c.loop-low.low) / 2 in
    let top = c.loop-low.invariant.inside in
    let test = c.loop-low-test.true in
    let is : slice_cmp nat_cmp (cell_at cs m).0 key ≡ Greater = ap (λ (k : List ℕ). slice_cmp nat_cmp k key) (sym c.key.ensures) ∙ sym c.cmp.ensures ∙ c.in-Greater.is in
    record {
      order = omega (arith, test);
      inside = omega (arith, test, top);
      below = c.loop-low.invariant.below;
      above = rise_above cs m key c.len-high.ensures.form.rising (omega (arith, test, top)) is;
    }

pub returns-clause-place : goal.returns-clause-place
returns-clause-place c =
    let i = c.loop-low.invariant in
    belongs c.args.self.now.cells c.loop-low.low c.loop-low.high c.args.key.now i.order c.loop-low-test.false i.inside i.below i.above

pub returns-clause-none : goal.returns-clause-none
returns-clause-none c =
    let i = c.loop-low.invariant in
    find_belongs c.args.self.now.cells c.args.key.now c.loop-low.low (belongs c.args.self.now.cells c.loop-low.low c.loop-low.high c.args.key.now i.order c.loop-low-test.false i.inside i.below i.above)
