-- What a key's leaf tells of the cells of all leaves.
use Rattle.std.proofs.Common.{◌≡◌, ℕ, ◌+◌, ◌<◌, ◌≤◌, false, List, [], ◌++◌, length, take, drop, filter, Some, None, option_map, sym, ap, subst, ◌∙◌, arith, append_assoc, true, true≢false}
use Rattle.std.proofs.lemmas.List.{take-append-drop, drop_more, drop_all, take_all, length-append}
use Rattle.std.specs.declared.cmp.Ordering.TheVariants.{Greater}
use Rattle.std.specs.Ordering.{is_lt}
use Rattle.std.specs.List.{AllByRecursion, find}
use Rattle.std.specs.FinMap as globals
use Rattle.journal_defs.specs.Leaves.{Cell}
use Rattle.block_fmt.specs.Cells.{AreBelow, AreAbove, cell_at}
use Rattle.gvt_leaf.specs.Chained.{leaf_cells, all_cells, replaced}
use Rattle.gvt_leaf.specs.Order.{AreRising, IsSeat}
use Rattle.gvn_globals.proofs.Basics.{less_of}
use Rattle.gvt_leaf.proofs.LeafLists.{cells_round, cells-replaced, rest_from, leaf_filled, above_from, below_to}
use Rattle.gvt_leaf.proofs.Updates.{find_between, put_between, removed_between, is_other, is_past, first_of, past_none, past_above, below_past}
use Rattle.journal_laws.proofs.ImageSteps.{all_both as all_joined}
use Rattle.global_defs.proofs.Basics.{bytes_cmp}

-- how many cells there are with others in place of a leaf's
pub count-replaced : (leaves : List (List Cell)) (i : ℕ) (news : List (List Cell)) → i < length leaves
    → length (all_cells (replaced leaves i news)) + length (leaf_cells leaves i) ≡ length (all_cells leaves) + length (all_cells news)
count-replaced leaves i news low =
    let before : List Cell = all_cells (take i leaves) in
    let behind : List Cell = all_cells (drop (i + 1) leaves) in
    omega (
      arith,
      ap length (cells-replaced leaves i news),
      ap length (cells_round leaves i low),
      length-append before (all_cells news ++ behind),
      length-append (all_cells news) behind,
      length-append before (leaf_cells leaves i ++ behind),
      length-append (leaf_cells leaves i) behind,
    )

-- the first cell of a leaf behind others is the first one of all from it on
pub first_from : (leaves : List (List Cell)) (i : ℕ) → AreRising leaves → i + 1 < length leaves → first_of (all_cells (drop (i + 1) leaves)) ≡ Some (cell_at (leaf_cells leaves (i + 1)) 0)
first_from leaves i rising low = ap first_of (rest_from leaves (i + 1) low (leaf_filled leaves (i + 1) rising.filled low (omega arith)))

pub first_nowhere : (leaves : List (List Cell)) (i : ℕ) → length leaves ≤ i + 1 → first_of (all_cells (drop (i + 1) leaves)) ≡ None
first_nowhere leaves i high = ap (λ (ls : List (List Cell)). first_of (all_cells ls)) (drop_all (i + 1) leaves high)

-- where a leaf begins behind a key, that belongs before it, and else from it on
pub behind_from : (leaves : List (List Cell)) (key : List ℕ) (middle : ℕ) → AreRising leaves → middle < length leaves → 0 < middle → is_lt (bytes_cmp key (cell_at (leaf_cells leaves middle) 0).0) ≡ true
    → AreAbove (all_cells (drop middle leaves)) key
behind_from leaves key middle rising low some h =
    above_from leaves key middle rising.rise low (leaf_filled leaves middle rising.filled low some) (less_of (bytes_cmp key (cell_at (leaf_cells leaves middle) 0).0) h)

pub before_to : (leaves : List (List Cell)) (key : List ℕ) (middle : ℕ) → AreRising leaves → middle < length leaves → 0 < middle → is_lt (bytes_cmp key (cell_at (leaf_cells leaves middle) 0).0) ≡ false
    → AreBelow (all_cells (take middle leaves)) key
before_to leaves key middle rising low some h =
    below_to leaves key middle rising.rise low (leaf_filled leaves middle rising.filled low some) (λ e. true≢false (sym (ap is_lt e) ∙ h))

module _ (leaves : List (List Cell)) (key : List ℕ) (i : ℕ) (seat : IsSeat leaves key i) where
  abbrev before : List Cell
  before = all_cells (take i leaves)

  abbrev here : List Cell
  here = leaf_cells leaves i

  abbrev behind : List Cell
  behind = all_cells (drop (i + 1) leaves)

  pub value_here : globals.find bytes_cmp key (all_cells leaves) ≡ globals.find bytes_cmp key here
  value_here = ap (globals.find bytes_cmp key) (cells_round leaves i seat.inside) ∙ find_between key before here behind seat.before seat.behind

  pub past_here : (place : ℕ) → place < length here → AllByRecursion (λ c. is_past key c ≡ false) (take place here) → AreAbove (drop place here) key
      → find (is_past key) (all_cells leaves) ≡ Some (cell_at here place)
  past_here place low none above =
      ap (find (is_past key)) (cells_round leaves i seat.inside)
      ∙ past_none key before (here ++ behind) (below_past key before seat.before)
      ∙ ap (λ (l : List Cell). find (is_past key) (l ++ behind)) (sym (take-append-drop place here))
      ∙ ap (find (is_past key)) (append_assoc (take place here) (drop place here) behind)
      ∙ past_none key (take place here) (drop place here ++ behind) none
      ∙ past_above key (drop place here ++ behind) (all_joined (λ (c : Cell). bytes_cmp c.0 key ≡ Greater) (drop place here) behind above seat.behind)
      ∙ ap (λ (l : List Cell). first_of (l ++ behind)) (drop_more here place ([], []) low)

  pub past_behind : (place : ℕ) → length here ≤ place → AllByRecursion (λ c. is_past key c ≡ false) (take place here) → find (is_past key) (all_cells leaves) ≡ first_of behind
  past_behind place high none =
      ap (find (is_past key)) (cells_round leaves i seat.inside)
      ∙ past_none key before (here ++ behind) (below_past key before seat.before)
      ∙ past_none key here behind (subst (λ (l : List Cell). AllByRecursion (λ c. is_past key c ≡ false) l) (take_all place here high) none)
      ∙ past_above key behind seat.behind

  pub past_in : (cells : List Cell) (place : ℕ) → cells ≡ here → place < length cells → AllByRecursion (λ c. is_past key c ≡ false) (take place cells) → AreAbove (drop place cells) key
      → option_map (λ c. c.0) (find (is_past key) (all_cells leaves)) ≡ Some (cell_at cells place).0
  past_in cells place is low none above =
      subst (λ (l : List Cell). place < length l → AllByRecursion (λ c. is_past key c ≡ false) (take place l) → AreAbove (drop place l) key → option_map (λ (c : Cell). c.0) (find (is_past key) (all_cells leaves)) ≡ Some (cell_at l place).0)
      (sym is) (λ low none above. ap (option_map (λ (c : Cell). c.0)) (past_here place low none above)) low none above

  pub past_out : (cells : List Cell) (place : ℕ) → cells ≡ here → length cells ≤ place → AllByRecursion (λ c. is_past key c ≡ false) (take place cells) → find (is_past key) (all_cells leaves) ≡ first_of behind
  past_out cells place is high none =
      subst (λ (l : List Cell). length l ≤ place → AllByRecursion (λ c. is_past key c ≡ false) (take place l) → find (is_past key) (all_cells leaves) ≡ first_of behind)
      (sym is) (λ high none. past_behind place high none) high none

  pub put_here : (value : List ℕ) (news : List (List Cell)) → all_cells news ≡ globals.put bytes_cmp key value here → all_cells (replaced leaves i news) ≡ globals.put bytes_cmp key value (all_cells leaves)
  put_here value news is =
      cells-replaced leaves i news
      ∙ ap (λ (l : List Cell). before ++ (l ++ behind)) is
      ∙ sym (ap (globals.put bytes_cmp key value) (cells_round leaves i seat.inside) ∙ put_between key value before here behind seat.before seat.behind)

  pub removed_here_alone : (news : List (List Cell)) → all_cells news ≡ filter (is_other key) here → all_cells (replaced leaves i news) ≡ filter (is_other key) (all_cells leaves)
  removed_here_alone news is =
      cells-replaced leaves i news
      ∙ ap (λ (l : List Cell). before ++ (l ++ behind)) is
      ∙ sym (ap (filter (is_other key)) (cells_round leaves i seat.inside) ∙ removed_between key before here behind seat.before seat.behind)

  pub nothing_removed : filter (is_other key) here ≡ here → all_cells leaves ≡ filter (is_other key) (all_cells leaves)
  nothing_removed is =
      cells_round leaves i seat.inside
      ∙ ap (λ (l : List Cell). before ++ (l ++ behind)) (sym is)
      ∙ sym (ap (filter (is_other key)) (cells_round leaves i seat.inside) ∙ removed_between key before here behind seat.before seat.behind)
