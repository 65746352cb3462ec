-- Runs of cells in a leaf, and the cells that begin with some bytes.
use Rattle.std.proofs.Common.{◌≡◌, ℕ, zero, suc, ◌+◌, ◌-◌, ◌<◌, ◌≤◌, Bool, true, false, List, [], ◌∷◌, ◌++◌, length, take, drop, get_or, filter, nat_eq, refl, sym, ap, subst, ◌∙◌, arith, add-one, append_assoc, append-nil}
use Rattle.std.specs.Prelude.{not}
use Rattle.std.proofs.lemmas.List.{take_more, take_all, drop_all, drop_more, drop-drop, get_or-drop, length-drop, take-append-drop}
use Rattle.std.specs.declared.cmp.Ordering.TheVariants.{Less, Equal}
use Rattle.std.specs.Ordering.{is_lt}
use Rattle.std.specs.List.{AllByRecursion, starts_with}
use Rattle.journal_defs.specs.Leaves.{Cell}
use Rattle.block_fmt.specs.Cells.{AreBelow, StandsIn, cell_at}
use Rattle.gvt_leaf.specs.Chained.{leaf_cells, all_cells}
use Rattle.gvt_leaf.specs.Order.{Rise, AreRising}
use Rattle.gvt_leaf.proofs.Links.{all-append}
use Rattle.gvt_leaf.proofs.Bytes.{rise_second}
use Rattle.gvt_leaf.proofs.LeafLists.{cells-append}
use Rattle.gvt_leaf.proofs.Updates.{tied, filter-append, filter_all, filter_none, is_outside, is_past, below_past, below_begins}
use Rattle.gvt_leaf.proofs.TakenOut.{AreNotBefore, above_not_before, FirstOutside, all_outside, ahead, run, after, run_round}
use Rattle.journal_laws.proofs.ImageSteps.{all_both as all_joined}
use Rattle.global_defs.proofs.Basics.{bytes_cmp}

-- ---- where a key stands

pub stands_not_before : (cells : List Cell) (key : List ℕ) (at : ℕ) → StandsIn cells key at → AreNotBefore (drop at cells) key
stands_not_before cells key at s =
    let equal : bytes_cmp (cell_at cells at).0 key ≡ Equal = ap (λ (k : List ℕ). bytes_cmp k key) s.here ∙ tied key in
    subst (λ (l : List Cell). AreNotBefore l key) (sym (drop_more cells at ([], []) s.inside)) ((λ e. let no : Equal ≡ Less = sym equal ∙ e in cc), above_not_before (drop (at + 1) cells) key s.after)

pub stands_past : (cells : List Cell) (key : List ℕ) (at : ℕ) → StandsIn cells key at → AllByRecursion (λ c. is_past key c ≡ false) (take (at + 1) cells)
stands_past cells key at s =
    let equal : bytes_cmp key (cell_at cells at).0 ≡ Equal = ap (bytes_cmp key) s.here ∙ tied key in
    subst (λ (l : List Cell). AllByRecursion (λ c. is_past key c ≡ false) l) (sym (take_more cells at ([], []) s.inside))
    (all_joined (λ (c : Cell). is_past key c ≡ false) (take at cells) (cell_at cells at ∷ []) (below_past key (take at cells) s.before) (ap is_lt equal, tt))

-- ---- a run of cells

pub run_more : (cells : List Cell) (from i : ℕ) → from ≤ i → i < length cells → take (i + 1 - from) (drop from cells) ≡ take (i - from) (drop from cells) ++ cell_at cells i ∷ []
run_more cells from i order low =
    let count : i + 1 - from ≡ i - from + 1 = omega (arith, order) in
    let place : from + (i - from) ≡ i = omega (arith, order) in
    let inside : i - from < length (drop from cells) = omega (arith, order, low, length-drop from cells) in
    ap (λ n. take n (drop from cells)) count ∙ take_more (drop from cells) (i - from) ([], []) inside
    ∙ ap (λ (c : Cell). take (i - from) (drop from cells) ++ c ∷ []) (get_or-drop from cells (i - from) ([], []) ∙ ap (cell_at cells) place)

pub all_more : (P : Cell → Type 0) (cells : List Cell) (from i : ℕ) → from ≤ i → i < length cells → AllByRecursion P (take (i - from) (drop from cells)) → P (cell_at cells i) → AllByRecursion P (take (i + 1 - from) (drop from cells))
all_more P cells from i order low all here =
    subst (AllByRecursion P) (sym (run_more cells from i order low)) (all_joined P (take (i - from) (drop from cells)) (cell_at cells i ∷ []) all (here, tt))

-- ---- leaves one after another

pub rest_whole : (leaves : List (List Cell)) (i : ℕ) → all_cells (drop i leaves) ≡ leaf_cells leaves i ++ all_cells (drop (i + 1) leaves)
rest_whole leaves i = rw (add-one i) (by leaves i)
  where
    by : (leaves : List (List Cell)) (i : ℕ) → all_cells (drop i leaves) ≡ get_or leaves i [] ++ all_cells (drop (suc i) leaves)
    by [] zero = refl
    by [] (suc i) = refl
    by (l ∷ ls) zero = refl
    by (l ∷ ls) (suc i) = by ls i

pub front_more : (leaves : List (List Cell)) (i : ℕ) → i < length leaves → all_cells (take (i + 1) leaves) ≡ all_cells (take i leaves) ++ leaf_cells leaves i
front_more leaves i low =
    ap all_cells (take_more leaves i [] low) ∙ cells-append (take i leaves) (leaf_cells leaves i ∷ [])
    ∙ ap (λ (l : List Cell). all_cells (take i leaves) ++ l) (append-nil (leaf_cells leaves i))

pub none_there : (leaves : List (List Cell)) (i : ℕ) → length leaves ≤ i → leaf_cells leaves i ≡ []
none_there [] zero high = refl
none_there [] (suc i) high = refl
none_there (l ∷ ls) zero high = absurd (omega arith)
none_there (l ∷ ls) (suc i) high = none_there ls i (omega arith)

-- ---- the cells that begin with some bytes

abbrev pub begins : List ℕ → Cell → Bool
begins code c = starts_with nat_eq c.0 code

begins_not : (code : List ℕ) (cells : List Cell) → AllByRecursion (λ c. is_outside code c ≡ true) cells → AllByRecursion (λ c. begins code c ≡ false) cells
begins_not code [] h = tt
begins_not code (c ∷ cs) h = (by (begins code c) h.0, begins_not code cs h.1)
  where
    by : (b : Bool) → not b ≡ true → b ≡ false
    by true e = cc
    by false e = refl

pub begun_inside : (code : List ℕ) (cells : List Cell) → AllByRecursion (λ c. begins code c ≡ true) cells → AllByRecursion (λ c. is_outside code c ≡ false) cells
begun_inside code [] h = tt
begun_inside code (c ∷ cs) h = (ap not h.0, begun_inside code cs h.1)

below_not : (code : List ℕ) (cells : List Cell) → AreBelow cells code → AllByRecursion (λ c. begins code c ≡ false) cells
below_not code [] h = tt
below_not code (c ∷ cs) h = (below_begins code c.0 h.0, below_not code cs h.1)

-- none among cells that are smaller
pub begun_none : (code : List ℕ) (cells : List Cell) → AreBelow cells code → filter (begins code) cells ≡ []
begun_none code cells low = filter_none (begins code) cells (below_not code cells low)

pub first_outside : (code : List ℕ) (cells more : List Cell) (end : ℕ) → end < length cells → begins code (cell_at cells end) ≡ false → FirstOutside code (drop end cells ++ more)
first_outside code cells more end low ends = subst (λ (l : List Cell). FirstOutside code (l ++ more)) (sym (drop_more cells end ([], []) low)) ends

-- a run in a leaf, from one place up to another, behind the cells that were looked at
module _ (leaves : List (List Cell)) (code : List ℕ) (i from end : ℕ) (rising : AreRising leaves) (low : i < length leaves) (order : from ≤ end) (inside : end ≤ length (leaf_cells leaves i))
    (later : AreNotBefore (drop from (leaf_cells leaves i) ++ all_cells (drop (i + 1) leaves)) code) (begun : AllByRecursion (λ c. begins code c ≡ true) (run leaves i from end low order inside)) where
  abbrev front : List Cell
  front = ahead leaves i from end low order inside

  abbrev here : List Cell
  here = run leaves i from end low order inside

  abbrev rest : List Cell
  rest = after leaves i from end low order inside

  begun_front : filter (begins code) (front ++ here) ≡ filter (begins code) front ++ here
  begun_front = filter-append (begins code) front here ∙ ap (λ (l : List Cell). filter (begins code) front ++ l) (filter_all (begins code) here begun)

  split_later : drop from (leaf_cells leaves i) ++ all_cells (drop (i + 1) leaves) ≡ here ++ rest
  split_later =
      let sum : from + (end - from) ≡ end = omega (arith, order) in
      ap (λ (l : List Cell). l ++ all_cells (drop (i + 1) leaves)) (sym (take-append-drop (end - from) (drop from (leaf_cells leaves i))) ∙ ap (λ (l : List Cell). here ++ l) (drop-drop (end - from) from (leaf_cells leaves i) ∙ ap (λ n. drop n (leaf_cells leaves i)) sum))
      ∙ append_assoc here (drop end (leaf_cells leaves i)) (all_cells (drop (i + 1) leaves))

  rest_later : AreNotBefore rest code
  rest_later = (all-append (λ (c : Cell). bytes_cmp c.0 code ≡ Less → ⊥) here rest (subst (λ (l : List Cell). AreNotBefore l code) split_later later)).1

  -- the run ends before the leaf does, so all that begin are found
  pub found_all : end < length (leaf_cells leaves i) → begins code (cell_at (leaf_cells leaves i) end) ≡ false → filter (begins code) front ++ here ≡ filter (begins code) (all_cells leaves)
  found_all more ends =
      let risen : Rise rest = rise_second (front ++ here) rest (subst Rise (run_round leaves i from end low order inside ∙ sym (append_assoc front here rest)) rising.rise) in
      let none : filter (begins code) rest ≡ [] = filter_none (begins code) rest (begins_not code rest (all_outside code rest rest_later risen (first_outside code (leaf_cells leaves i) (all_cells (drop (i + 1) leaves)) end more ends))) in
      sym (ap (filter (begins code)) (run_round leaves i from end low order inside ∙ sym (append_assoc front here rest)) ∙ filter-append (begins code) (front ++ here) rest ∙ (λ j. begun_front j ++ none j) ∙ append-nil (filter (begins code) front ++ here))

  module _ (whole : length (leaf_cells leaves i) ≤ end) where
    leaf_end : take from (leaf_cells leaves i) ++ here ≡ leaf_cells leaves i
    leaf_end =
        let long : length (drop from (leaf_cells leaves i)) ≤ end - from = omega (arith, whole, length-drop from (leaf_cells leaves i)) in
        ap (λ (l : List Cell). take from (leaf_cells leaves i) ++ l) (take_all (end - from) (drop from (leaf_cells leaves i)) long) ∙ take-append-drop from (leaf_cells leaves i)

    -- or it goes on in the next leaf
    pub found_on : (next : ℕ) → next ≡ i + 1 → filter (begins code) front ++ here ≡ filter (begins code) (all_cells (take next leaves) ++ take 0 (leaf_cells leaves next))
    found_on next is =
        sym begun_front
        ∙ ap (filter (begins code)) (append_assoc (all_cells (take i leaves)) (take from (leaf_cells leaves i)) here ∙ ap (λ (l : List Cell). all_cells (take i leaves) ++ l) leaf_end ∙ sym (front_more leaves i low)
        ∙ ap (λ n. all_cells (take n leaves)) (sym is) ∙ sym (append-nil (all_cells (take next leaves))))

    pub later_on : (next : ℕ) → next ≡ i + 1 → AreNotBefore (drop 0 (leaf_cells leaves next) ++ all_cells (drop (next + 1) leaves)) code
    later_on next is =
        let none : drop end (leaf_cells leaves i) ≡ [] = drop_all end (leaf_cells leaves i) whole in
        subst (λ (l : List Cell). AreNotBefore l code) (ap (λ (l : List Cell). l ++ all_cells (drop (i + 1) leaves)) none ∙ ap (λ n. all_cells (drop n leaves)) (sym is) ∙ rest_whole leaves next) rest_later
