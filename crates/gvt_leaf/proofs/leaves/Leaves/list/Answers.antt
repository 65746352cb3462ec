use Rattle.std.proofs.Common.{◌≡◌, ◌∙◌, ap, map, true, filter, nat_eq, []}
use Rattle.std.specs.List.{AllByRecursion, starts_with}
use Rattle.std.specs.FinMap as globals
use Rattle.global_defs.specs.Valid.{is_key}
use Rattle.gvt_leaf.specs.Chained.{all_cells}
use Rattle.gvt_leaf.specs.Listed.{node_value, node_cell}
use Rattle.gvt_leaf.specs.Stored.{Stored}
use Rattle.gvt_leaf.proofs.Asked.{if_ok_both, listed_all}
use Rattle.gvt_leaf.proofs.Made.{held}
use Rattle.gvt_leaf.proofs.leaves.Leaves.list.Goals as goal

pub returns : goal.returns
returns c =
    let cells = all_cells c.self.inside.chain.leaves in
    if_ok_both c.nodes_under.result (λ made. map node_cell made.items ≡ filter (λ x. starts_with nat_eq x.0 []) cells) (λ made. AllByRecursion (λ n. is_key n.key ≡ true) made.items)
    (λ made. map node_value made.items ≡ globals.entries c.args.self.now.globals)
    (λ made is keys. listed_all cells (held c.self.inside c.self.invariant) made.items keys is ∙ ap (λ (s : Stored). globals.entries s.globals) c.self.view_is)
    c.nodes_under.ensures.nodes c.nodes_under.ensures.keys
