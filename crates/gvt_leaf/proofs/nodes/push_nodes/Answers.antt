use Rattle.std.proofs.Common.{map, ◌∙◌, arith}
use Rattle.gvt_leaf.specs.Listed.{node_cell}
use Rattle.gvt_leaf.specs.declared.nodes.Node.{Node}
use Rattle.gvt_leaf.proofs.ListedNodes.{nodes_more, keys_more}
use Rattle.gvt_leaf.proofs.nodes.push_nodes.Goals as goal

pub loop-i-preserved : goal.loop-i-preserved
loop-i-preserved c =
    let n : Node = record { key = c.in_ok-key.key; value = c.value.result } in
    let i = c.loop-i.invariant in
    let old = c.loop-i.list.items in
    let new = c.push.new.self.items in
    record {
      nodes = nodes_more old new n c.in_ok-push.ensures.items (map node_cell c.args.list.now.items) c.args.leaf.now.cells c.args.from c.loop-i.i i.nodes c.loop-i.auto.i (omega (arith, c.loop-i-test.true, c.requires.inside))
          (c.in_ok-key.ensures.code ∙ c.key.ensures) c.value.ensures;
      keys = λ all. keys_more old new n c.in_ok-push.ensures.items (i.keys all) c.in_ok-key.ensures.valid;
    }
