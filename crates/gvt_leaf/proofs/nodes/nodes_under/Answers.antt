use Rattle.std.proofs.Common.{◌≡◌, ◌+◌, ◌-◌, ◌≤◌, ◌++◌, true, false, List, length, take, drop, map, filter, refl, sym, ap, subst, ◌∙◌, arith}
use Rattle.std.specs.List.{AllByRecursion}
use Rattle.journal_defs.specs.Leaves.{Cell}
use Rattle.block_fmt.specs.Cells.{cell_at}
use Rattle.gvt_leaf.specs.Chained.{leaf_cells, all_cells}
use Rattle.gvt_leaf.specs.Listed.{node_cell}
use Rattle.gvt_leaf.proofs.Runs.{begins, found_all, found_on, later_on}
use Rattle.gvt_leaf.proofs.ListedNodes.{HaveKeys, none_yet, all_later}
use Rattle.gvt_leaf.proofs.nodes.nodes_under.Goals as goal

pub loop-i-init : goal.loop-i-init
loop-i-init c =
    let leaves = c.args.chain.now.leaves in
    let code = c.args.code.now in
    let p = c.place_of-from.ensures in
    record {
      place = λ low. omega (arith, p.inside, ap (λ (l : List Cell). length l) c.leaf.ensures);
      listed = ap (map node_cell) c.new-list.ensures.items ∙ none_yet leaves code c.seat-first.result c.place_of-from.result c.seat-first.ensures c.leaf.result.now.cells c.leaf.ensures p.before p.behind;
      later = all_later leaves code c.seat-first.result c.place_of-from.result c.seat-first.ensures c.leaf.result.now.cells c.leaf.ensures p.before p.behind;
      keys = subst HaveKeys (sym c.new-list.ensures.items) tt;
    }

pub returns-then-end-len-clause-nodes : goal.returns-then-end-len-clause-nodes
returns-then-end-len-clause-nodes c =
    let leaves = c.args.chain.now.leaves in
    let code = c.args.code.now in
    let i = c.loop-i.i in
    let from = c.loop-i.from in
    let end = c.run_end-end.result in
    let cells = c.leaf-leaf.result.now.cells in
    let e = c.run_end-end.ensures in
    let inside : end ≤ length (leaf_cells leaves i) = omega (arith, e.inside, ap (λ (l : List Cell). length l) c.leaf-leaf.ensures) in
    let begun : AllByRecursion (λ x. begins code x ≡ true) (take (end - from) (drop from (leaf_cells leaves i))) =
    subst (λ (l : List Cell). AllByRecursion (λ x. begins code x ≡ true) (take (end - from) (drop from l))) c.leaf-leaf.ensures e.run in
    let ends : begins code (cell_at (leaf_cells leaves i) end) ≡ false =
    subst (λ (l : List Cell). begins code (cell_at l end) ≡ false) c.leaf-leaf.ensures (e.end (omega (arith, c.if-end-len.true, c.len.ensures.len))) in
    c.in_ok-push_nodes.ensures.nodes
    ∙ ap (λ (l : List Cell). l ++ take (end - from) (drop from cells)) c.loop-i.invariant.listed
    ∙ ap (λ (l : List Cell). filter (begins code) (all_cells (take i leaves) ++ take from (leaf_cells leaves i)) ++ take (end - from) (drop from l)) c.leaf-leaf.ensures
    ∙ found_all leaves code i from end c.requires (omega (arith, c.loop-i-test.true, c.len-i-end.ensures.len)) e.order inside c.loop-i.invariant.later begun
    (omega (arith, c.if-end-len.true, c.len.ensures.len, ap (λ (l : List Cell). length l) c.leaf-leaf.ensures)) ends

pub loop-i-preserved : goal.loop-i-preserved
loop-i-preserved c =
    let leaves = c.args.chain.now.leaves in
    let code = c.args.code.now in
    let i = c.loop-i.i in
    let from = c.loop-i.from in
    let end = c.run_end-end.result in
    let cells = c.leaf-leaf.result.now.cells in
    let e = c.run_end-end.ensures in
    let inside : end ≤ length (leaf_cells leaves i) = omega (arith, e.inside, ap (λ (l : List Cell). length l) c.leaf-leaf.ensures) in
    let whole : length (leaf_cells leaves i) ≤ end = omega (arith, c.if-end-len.false, c.len.ensures.len, ap (λ (l : List Cell). length l) c.leaf-leaf.ensures) in
    let begun : AllByRecursion (λ x. begins code x ≡ true) (take (end - from) (drop from (leaf_cells leaves i))) =
    subst (λ (l : List Cell). AllByRecursion (λ x. begins code x ≡ true) (take (end - from) (drop from l))) c.leaf-leaf.ensures e.run in
    record {
      place = λ low. omega arith;
      listed =
          c.in_ok-push_nodes.ensures.nodes
          ∙ ap (λ (l : List Cell). l ++ take (end - from) (drop from cells)) c.loop-i.invariant.listed
          ∙ ap (λ (l : List Cell). filter (begins code) (all_cells (take i leaves) ++ take from (leaf_cells leaves i)) ++ take (end - from) (drop from l)) c.leaf-leaf.ensures
          ∙ found_on leaves code i from end c.requires (omega (arith, c.loop-i-test.true, c.len-i-end.ensures.len)) e.order inside c.loop-i.invariant.later begun whole (i + 1) refl;
      later = later_on leaves code i from end c.requires (omega (arith, c.loop-i-test.true, c.len-i-end.ensures.len)) e.order inside c.loop-i.invariant.later begun whole (i + 1) refl;
      keys = c.in_ok-push_nodes.ensures.keys c.loop-i.invariant.keys;
    }
