-- Nodes listed along a chain of leaves.
use Rattle.std.proofs.Common.{◌≡◌, ℕ, ◌+◌, ◌-◌, ◌<◌, ◌≤◌, true, List, [], ◌∷◌, ◌++◌, length, take, drop, map, filter, sym, ap, subst, ◌∙◌, append_assoc}
use Rattle.std.proofs.lemmas.List.{map-append}
use Rattle.std.specs.declared.cmp.Ordering.TheVariants.{Less}
use Rattle.std.specs.List.{AllByRecursion}
use Rattle.global_defs.specs.Valid.{is_key}
use Rattle.global_defs.specs.Encoded.{encoded}
use Rattle.journal_defs.specs.Leaves.{Cell}
use Rattle.block_fmt.specs.Cells.{AreBelow, cell_at}
use Rattle.gvt_leaf.specs.Chained.{leaf_cells, all_cells}
use Rattle.gvt_leaf.specs.Listed.{node_cell}
use Rattle.gvt_leaf.specs.Order.{IsSeat}
use Rattle.gvt_leaf.specs.declared.nodes.Node.{Node}
use Rattle.gvt_leaf.proofs.TakenOut.{AreNotBefore, above_not_before}
use Rattle.gvt_leaf.proofs.Runs.{run_more, begins, begun_none}
use Rattle.journal_laws.proofs.ImageSteps.{all_both as all_joined}
use Rattle.global_defs.proofs.Basics.{bytes_cmp}

-- these nodes have keys that there are
abbrev pub HaveKeys : List Node → Type 0
HaveKeys nodes = AllByRecursion (λ n. is_key n.key ≡ true) nodes

module _ (old new : List Node) (n : Node) (is : new ≡ old ++ n ∷ []) where
  pub nodes_more : (front cells : List Cell) (from i : ℕ) → map node_cell old ≡ front ++ take (i - from) (drop from cells) → from ≤ i → i < length cells
      → encoded n.key ≡ (cell_at cells i).0 → n.value.now ≡ (cell_at cells i).1 → map node_cell new ≡ front ++ take (i + 1 - from) (drop from cells)
  nodes_more front cells from i so order low key value =
      let cell : node_cell n ≡ cell_at cells i = λ j. (key j, value j) in
      ap (map node_cell) is ∙ map-append node_cell old (n ∷ []) ∙ ap (λ (l : List Cell). l ++ node_cell n ∷ []) so
      ∙ append_assoc front (take (i - from) (drop from cells)) (node_cell n ∷ [])
      ∙ ap (λ (l : List Cell). front ++ l) (ap (λ (c : Cell). take (i - from) (drop from cells) ++ c ∷ []) cell ∙ sym (run_more cells from i order low))

  pub keys_more : HaveKeys old → is_key n.key ≡ true → HaveKeys new
  keys_more all key = subst HaveKeys (sym is) (all_joined (λ (m : Node). is_key m.key ≡ true) old (n ∷ []) all (key, tt))

-- the place at which a list begins
module _ (leaves : List (List Cell)) (code : List ℕ) (i from : ℕ) (seat : IsSeat leaves code i) (cells : List Cell) (are : cells ≡ leaf_cells leaves i) (before : AreBelow (take from cells) code)
    (behind : AreNotBefore (drop from cells) code) where
  pub none_yet : [] ≡ filter (begins code) (all_cells (take i leaves) ++ take from (leaf_cells leaves i))
  none_yet =
      sym (begun_none code (all_cells (take i leaves) ++ take from (leaf_cells leaves i))
      (all_joined (λ (c : Cell). bytes_cmp c.0 code ≡ Less) (all_cells (take i leaves)) (take from (leaf_cells leaves i)) seat.before (subst (λ (l : List Cell). AreBelow (take from l) code) are before)))

  pub all_later : AreNotBefore (drop from (leaf_cells leaves i) ++ all_cells (drop (i + 1) leaves)) code
  all_later =
      all_joined (λ (c : Cell). bytes_cmp c.0 code ≡ Less → ⊥) (drop from (leaf_cells leaves i)) (all_cells (drop (i + 1) leaves)) (subst (λ (l : List Cell). AreNotBefore (drop from l) code) are behind)
      (above_not_before (all_cells (drop (i + 1) leaves)) code seat.behind)
