use Rattle.gvt_leaf.proofs.Made.{node_count}
use Rattle.gvt_leaf.proofs.leaves.Leaves.nodes.Goals as goal

pub returns : goal.returns
returns c = node_count c.self.inside c.args.self.now c.self.invariant c.self.view_is
