use Rattle.std.proofs.Common.{◌++◌, take, map, ap, sym, ◌∙◌, append_assoc}
use Rattle.std.specs.List.{flat_map}
use Rattle.gvt_leaf.specs.Listed.{node_value}
use Rattle.site_defs.specs.Texts.{node_line}
use Rattle.global_defs.specs.Prefix.{IsPrefix}
use Rattle.site_store.proofs.Typed.{whatever_error}
use Rattle.site_store.proofs.Pieces.{written_more}
use Rattle.site_store.proofs.showing.write_nodes.Goals as goal

pub returns-in_err-write_node-clause-front : goal.returns-in_err-write_node-clause-front
returns-in_err-write_node-clause-front c =
    whatever_error c.from_residual.result (IsPrefix c.args.out.now c.write_node.new.out) (flat_map node_line (map node_value (take c.loop-node.node-index c.args.nodes.now)), c.in_err-write_node.ensures.err ∙ c.loop-node.invariant)

pub loop-node-preserved : goal.loop-node-preserved
loop-node-preserved c =
    let line = node_line (node_value c.node-item.result) in
    c.in_ok-write_node.ensures.ok
    ∙ ap (λ x. x ++ line) c.loop-node.invariant
    ∙ append_assoc c.args.out.now (flat_map node_line (map node_value (take c.loop-node.node-index c.args.nodes.now))) line
    ∙ ap (λ x. c.args.out.now ++ x) (sym (written_more node_line node_value c.args.nodes.now c.loop-node.node-index c.node-item.result c.loop-node-test.true c.node-item.is))
