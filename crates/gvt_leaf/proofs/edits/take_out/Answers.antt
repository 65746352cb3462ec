use Rattle.std.proofs.Common.{ap, ◌∙◌}
use Rattle.block_fmt.specs.Cells.{without_between}
use Rattle.gvt_leaf.specs.Chained.{leaf_cells, all_cells}
use Rattle.gvt_leaf.proofs.TakenOut.{filled_but, out_count, out_rise}
use Rattle.gvt_leaf.proofs.edits.take_out.Goals as goal

pub drop_empty-requires-clause-filled : goal.drop_empty-requires-clause-filled
drop_empty-requires-clause-filled c =
    filled_but c.args.chain.now.leaves c.cut.new.self.leaves c.args.i (without_between (leaf_cells c.args.chain.now.leaves c.args.i) c.args.from c.args.to) c.requires.rising.filled c.requires.inside c.cut.ensures.leaves

pub returns-clause-count : goal.returns-clause-count
returns-clause-count c =
    out_count c.args.chain.now.leaves c.args.i c.args.from c.args.to c.requires.inside c.requires.order c.requires.cells c.drop_empty.new.chain.leaves
    (c.drop_empty.ensures.cells ∙ ap all_cells c.cut.ensures.leaves)

pub returns-clause-rising : goal.returns-clause-rising
returns-clause-rising c = record {
  rise = out_rise c.args.chain.now.leaves c.args.i c.args.from c.args.to c.requires.inside c.requires.order c.requires.cells c.drop_empty.new.chain.leaves
      (c.drop_empty.ensures.cells ∙ ap all_cells c.cut.ensures.leaves) c.requires.rising.rise;
  filled = c.drop_empty.ensures.filled;
}
