use Rattle.std.proofs.Common.{◌∙◌, ap}
use Rattle.journal_defs.specs.Leaves.{Leaf}
use Rattle.gvt_leaf.proofs.Kept.{number_inside, leaf_there}
use Rattle.gvt_leaf.proofs.chain.Chain.leaf.Goals as goal

pub block-requires : goal.block-requires
block-requires c = number_inside c.self.inside c.args.self.now c.self.invariant c.self.view_is c.args.i c.index.result.now c.index.ensures c.requires

pub returns : goal.returns
returns c = ap (λ (l : Leaf). l.cells) c.block.ensures ∙ leaf_there c.self.inside c.args.self.now c.self.view_is c.args.i c.index.result.now c.index.ensures c.requires
