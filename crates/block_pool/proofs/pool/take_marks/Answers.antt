use Rattle.std.proofs.Common.{arith, refl, sym, ◌∙◌, length, get_or}
use Rattle.block_pool.specs.declared.pool.Page.{Page}
use Rattle.block_pool.proofs.Pages.{blocks-unmarked, marks-unmarked, unmarked_inside, no-marks}
use Rattle.block_pool.proofs.pool.take_marks.Goals as goal

pub loop-number-init : goal.loop-number-init
loop-number-init c = record { blocks = refl; left = sym c.requires }

pub bounds-pages-number : goal.bounds-pages-number
bounds-pages-number c =
    let l = c.loop-number in
    unmarked_inside l.pages c.args.changed.now l.number-index (get_or c.args.changed.now l.number-index 0) l.invariant.left c.loop-number-test.true refl

pub bounds-pages-number-in-loop-number : goal.bounds-pages-number-in-loop-number
bounds-pages-number-in-loop-number c =
    let l = c.loop-number in
    unmarked_inside l.pages c.args.changed.now l.number-index (get_or c.args.changed.now l.number-index 0) l.invariant.left c.loop-number-test.true refl

pub loop-number-preserved : goal.loop-number-preserved
loop-number-preserved c =
    let l = c.loop-number in
    record {
      blocks = blocks-unmarked l.pages (get_or c.args.changed.now l.number-index 0) _ ∙ l.invariant.blocks;
      left = marks-unmarked l.pages c.args.changed.now l.number-index (get_or c.args.changed.now l.number-index 0) _ l.invariant.left c.loop-number-test.true refl;
    }

pub returns : goal.returns
returns c =
    let l = c.loop-number in
    let end = c.loop-number-test.false in
    record {
      blocks = l.invariant.blocks;
      marks = no-marks l.pages c.args.changed.now l.number-index (length c.args.pages.now) l.auto.pages (omega (arith, end)) l.invariant.left;
    }
