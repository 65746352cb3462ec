-- Where no cell begins with some bytes any more.
use Rattle.std.proofs.Common.{◌≡◌, ℕ, ◌+◌, ◌<◌, ◌≤◌, false, List, ◌++◌, length, take, drop, nat_eq, sym, ap, subst, ◌∙◌, arith, append_assoc}
use Rattle.std.proofs.lemmas.List.{take-append-drop, drop_all}
use Rattle.std.specs.declared.cmp.Ordering.TheVariants.{Less}
use Rattle.std.specs.List.{starts_with}
use Rattle.journal_defs.specs.Leaves.{Cell}
use Rattle.block_fmt.specs.Cells.{AreBelow, cell_at}
use Rattle.gvt_leaf.specs.Chained.{leaf_cells, all_cells}
use Rattle.gvt_leaf.specs.Edits.{outside}
use Rattle.gvt_leaf.specs.Order.{Rise, AreRising, IsSeat}
use Rattle.gvt_leaf.proofs.Bytes.{rise_second}
use Rattle.gvt_leaf.proofs.LeafLists.{cells_round, rest_from, leaf_filled}
use Rattle.gvt_leaf.proofs.TakenOut.{AreNotBefore, above_not_before, FirstOutside, none_left}
use Rattle.gvt_leaf.proofs.Runs.{first_outside}
use Rattle.journal_laws.proofs.ImageSteps.{all_both as all_joined}
use Rattle.global_defs.proofs.Basics.{bytes_cmp}

-- the bytes' place among all cells
module _ (leaves : List (List Cell)) (code : List ℕ) (i from : ℕ) (rising : AreRising leaves) (seat : IsSeat leaves code i) (cells : List Cell) (are : cells ≡ leaf_cells leaves i)
    (before : AreBelow (take from cells) code) (behind : AreNotBefore (drop from cells) code) where
  abbrev smaller : List Cell
  smaller = all_cells (take i leaves) ++ take from (leaf_cells leaves i)

  abbrev others : List Cell
  others = drop from (leaf_cells leaves i) ++ all_cells (drop (i + 1) leaves)

  joined : (a b c d : List Cell) → a ++ ((b ++ c) ++ d) ≡ (a ++ b) ++ (c ++ d)
  joined a b c d = simp append_assoc

  all_round : all_cells leaves ≡ smaller ++ others
  all_round =
      cells_round leaves i seat.inside ∙ ap (λ (l : List Cell). all_cells (take i leaves) ++ (l ++ all_cells (drop (i + 1) leaves))) (sym (take-append-drop from (leaf_cells leaves i)))
      ∙ joined (all_cells (take i leaves)) (take from (leaf_cells leaves i)) (drop from (leaf_cells leaves i)) (all_cells (drop (i + 1) leaves))

  none_begins : FirstOutside code others → outside code (all_cells leaves) ≡ all_cells leaves
  none_begins first =
      ap (outside code) all_round
      ∙ none_left code smaller others (all_joined (λ (c : Cell). bytes_cmp c.0 code ≡ Less) (all_cells (take i leaves)) (take from (leaf_cells leaves i)) seat.before (subst (λ (l : List Cell). AreBelow (take from l) code) are before))
      (all_joined (λ (c : Cell). bytes_cmp c.0 code ≡ Less → ⊥) (drop from (leaf_cells leaves i)) (all_cells (drop (i + 1) leaves)) (subst (λ (l : List Cell). AreNotBefore (drop from l) code) are behind) (above_not_before (all_cells (drop (i + 1) leaves)) code seat.behind))
      (rise_second smaller others (subst Rise all_round rising.rise)) first
      ∙ sym all_round

  pub low_here : from < length cells → from < length (leaf_cells leaves i)
  low_here low = omega (arith, low, ap (λ (l : List Cell). length l) are)

  pub none_here : from < length cells → starts_with nat_eq (cell_at (leaf_cells leaves i) from).0 code ≡ false → outside code (all_cells leaves) ≡ all_cells leaves
  none_here low ends = none_begins (first_outside code (leaf_cells leaves i) (all_cells (drop (i + 1) leaves)) from (low_here low) ends)

  -- the leaf has none from there on
  over : length (leaf_cells leaves i) ≤ from → all_cells (drop (i + 1) leaves) ≡ others
  over high = ap (λ (l : List Cell). l ++ all_cells (drop (i + 1) leaves)) (sym (drop_all from (leaf_cells leaves i) high))

  long : length cells ≤ from → length (leaf_cells leaves i) ≤ from
  long high = omega (arith, high, ap (λ (l : List Cell). length l) are)

  pub none_next : length cells ≤ from → i + 1 < length leaves → starts_with nat_eq (cell_at (leaf_cells leaves (i + 1)) 0).0 code ≡ false → outside code (all_cells leaves) ≡ all_cells leaves
  none_next high low ends =
      none_begins (subst (FirstOutside code) (sym (rest_from leaves (i + 1) low (leaf_filled leaves (i + 1) rising.filled low (omega arith))) ∙ over (long high)) ends)

  pub none_behind : length cells ≤ from → length leaves ≤ i + 1 → outside code (all_cells leaves) ≡ all_cells leaves
  none_behind high last = none_begins (subst (FirstOutside code) (ap all_cells (sym (drop_all (i + 1) leaves last)) ∙ over (long high)) tt)
