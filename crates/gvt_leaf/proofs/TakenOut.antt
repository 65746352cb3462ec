-- Leaves after cells of one of them were taken away.
use Rattle.std.proofs.Common.{◌≡◌, ◌≢◌, ℕ, zero, suc, ◌+◌, ◌-◌, ◌<◌, ◌≤◌, true, false, List, [], ◌∷◌, ◌++◌, length, take, drop, filter, nat_eq, sym, ap, subst, ◌∙◌, arith, add-one, append_assoc, append-nil}
use Rattle.std.specs.Prelude.{not}
use Rattle.std.proofs.lemmas.List.{take-append-drop, drop_more, drop-drop, take_at, drop_at, length-take-le, length-append}
use Rattle.std.specs.declared.cmp.Ordering.TheVariants.{Less, Greater}
use Rattle.std.specs.List.{AllByRecursion, starts_with}
use Rattle.journal_defs.specs.Leaves.{Cell}
use Rattle.block_fmt.specs.Cells.{AreBelow, AreAbove, StandsIn, BelongsAt, without_between}
use Rattle.gvt_leaf.specs.Chained.{leaf_cells, all_cells, replaced}
use Rattle.gvt_leaf.specs.Order.{Rise, IsSeat}
use Rattle.gvt_leaf.specs.Edits.{AreFilledBut, outside}
use Rattle.gvt_leaf.proofs.Bytes.{rise_without}
use Rattle.gvt_leaf.proofs.LeafLists.{cells_round, cells-replaced, filled_past, filled_to}
use Rattle.gvt_leaf.proofs.Updates.{is_other, removed_here, removed_nowhere, is_outside, below_outside, outside_behind, filter_all, killed_some}
use Rattle.gvt_leaf.proofs.Apart.{length_without}
use Rattle.gvt_leaf.proofs.Seated.{count-replaced, removed_here_alone, nothing_removed}
use Rattle.journal_laws.proofs.ImageSteps.{all_both as all_joined}
use Rattle.global_defs.proofs.Basics.{bytes_cmp}

-- ---- an empty leaf goes

module _ (leaves : List (List Cell)) (i : ℕ) (low : i < length leaves) where
  pub gone_cells : 0 < i → leaf_cells leaves i ≡ [] → all_cells (replaced leaves (i - 1 + 1) []) ≡ all_cells leaves
  gone_cells some none =
      let same : i - 1 + 1 ≡ i = omega (arith, some) in
      ap (λ n. all_cells (replaced leaves n [])) same ∙ cells-replaced leaves i []
      ∙ ap (λ (l : List Cell). all_cells (take i leaves) ++ (l ++ all_cells (drop (i + 1) leaves))) (sym none)
      ∙ sym (cells_round leaves i low)

filled_apart : (leaves : List (List Cell)) (i : ℕ) (news : List (List Cell)) → 0 < i → i < length leaves → AreFilledBut leaves i → AllByRecursion (λ l. l ≢ []) news
    → AllByRecursion (λ l. l ≢ []) (drop 1 (take i leaves ++ (news ++ drop (i + 1) leaves)))
filled_apart leaves zero news some low f full = absurd (omega arith)
filled_apart [] (suc i) news some low f full = absurd (omega arith)
filled_apart (l ∷ ls) (suc i) news some low f full =
    all_joined (λ (l : List Cell). l ≢ []) (take i ls) (news ++ drop (suc i + 1) (l ∷ ls)) f.before (all_joined (λ (l : List Cell). l ≢ []) news (drop (suc i + 1) (l ∷ ls)) full f.behind)

pub kept_filled : (leaves : List (List Cell)) (i : ℕ) → 0 < i → i < length leaves → AreFilledBut leaves i → leaf_cells leaves i ≢ [] → AllByRecursion (λ l. l ≢ []) (drop 1 leaves)
kept_filled leaves i some low f full =
    subst (λ (ls : List (List Cell)). AllByRecursion (λ l. l ≢ []) (drop 1 ls)) (sym (sym (take-append-drop i leaves) ∙ ap (λ (ls : List (List Cell)). take i leaves ++ ls) (drop_more leaves i [] low)))
    (filled_apart leaves i (leaf_cells leaves i ∷ []) some low f (full, tt))

filled_front : (leaves : List (List Cell)) (i : ℕ) → AllByRecursion (λ l. l ≢ []) (drop 1 leaves) → AllByRecursion (λ l. l ≢ []) (drop 1 (take i leaves))
filled_front leaves zero all = tt
filled_front [] (suc i) all = tt
filled_front (l ∷ ls) (suc i) all = filled_to ls i all

filled_rest : (leaves : List (List Cell)) (i : ℕ) → AllByRecursion (λ l. l ≢ []) (drop 1 leaves) → AllByRecursion (λ l. l ≢ []) (drop (i + 1) leaves)
filled_rest leaves i all = rw (add-one i) (by leaves i all)
  where
    by : (leaves : List (List Cell)) (i : ℕ) → AllByRecursion (λ l. l ≢ []) (drop 1 leaves) → AllByRecursion (λ l. l ≢ []) (drop (suc i) leaves)
    by [] i all = tt
    by (l ∷ ls) i all = filled_past ls i all

-- with other cells in one leaf the others have cells still
pub filled_but : (leaves mid : List (List Cell)) (i : ℕ) (cells : List Cell) → AllByRecursion (λ l. l ≢ []) (drop 1 leaves) → i < length leaves → mid ≡ replaced leaves i (cells ∷ []) → AreFilledBut mid i
filled_but leaves mid i cells all low is =
    let long : length (take i leaves) ≡ i = length-take-le i leaves (omega (arith, low)) in
    let front : take i mid ≡ take i leaves = ap (take i) is ∙ take_at (take i leaves) ((cells ∷ []) ++ drop (i + 1) leaves) i long in
    let rest : drop (i + 1) mid ≡ drop (i + 1) leaves =
    ap (drop (i + 1)) is ∙ drop_seam (take i leaves) cells (drop (i + 1) leaves) i long in
    record {
      before = subst (λ (ls : List (List Cell)). AllByRecursion (λ l. l ≢ []) (drop 1 ls)) (sym front) (filled_front leaves i all);
      behind = subst (λ (ls : List (List Cell)). AllByRecursion (λ l. l ≢ []) ls) (sym rest) (filled_rest leaves i all);
    }
  where
    drop_seam : (xs : List (List Cell)) (c : List Cell) (ys : List (List Cell)) (n : ℕ) → length xs ≡ n → drop (n + 1) (xs ++ ((c ∷ []) ++ ys)) ≡ ys
    drop_seam xs c ys n long = ap (λ (l : List (List Cell)). drop (n + 1) l) (sym (append_assoc xs (c ∷ []) ys)) ∙ drop_at (xs ++ (c ∷ [])) ys (n + 1) (omega (arith, long, length-append xs (c ∷ [])))

-- ---- cells of a leaf from one place up to another

module _ (leaves : List (List Cell)) (i from to : ℕ) (low : i < length leaves) (order : from ≤ to) (inside : to ≤ length (leaf_cells leaves i)) where
  abbrev pub ahead : List Cell
  ahead = all_cells (take i leaves) ++ take from (leaf_cells leaves i)

  abbrev pub run : List Cell
  run = take (to - from) (drop from (leaf_cells leaves i))

  abbrev pub after : List Cell
  after = drop to (leaf_cells leaves i) ++ all_cells (drop (i + 1) leaves)

  leaf_apart : leaf_cells leaves i ≡ take from (leaf_cells leaves i) ++ (run ++ drop to (leaf_cells leaves i))
  leaf_apart =
      let sum : from + (to - from) ≡ to = omega (arith, order) in
      sym (take-append-drop from (leaf_cells leaves i))
      ∙ ap (λ (l : List Cell). take from (leaf_cells leaves i) ++ l) (sym (take-append-drop (to - from) (drop from (leaf_cells leaves i)))
      ∙ ap (λ (l : List Cell). run ++ l) (drop-drop (to - from) from (leaf_cells leaves i) ∙ ap (λ n. drop n (leaf_cells leaves i)) sum))

  joined : (a b c d e : List Cell) → a ++ ((b ++ (c ++ d)) ++ e) ≡ (a ++ b) ++ (c ++ (d ++ e))
  joined a b c d e = simp append_assoc

  pub run_round : all_cells leaves ≡ ahead ++ (run ++ after)
  run_round =
      cells_round leaves i low ∙ ap (λ (l : List Cell). all_cells (take i leaves) ++ (l ++ all_cells (drop (i + 1) leaves))) leaf_apart
      ∙ joined (all_cells (take i leaves)) (take from (leaf_cells leaves i)) run (drop to (leaf_cells leaves i)) (all_cells (drop (i + 1) leaves))

  left : (a b d e : List Cell) → a ++ (((b ++ d) ++ []) ++ e) ≡ (a ++ b) ++ (d ++ e)
  left a b d e = ap (λ (l : List Cell). a ++ (l ++ e)) (append-nil (b ++ d)) ∙ ap (λ (l : List Cell). a ++ l) (append_assoc b d e) ∙ sym (append_assoc a b (d ++ e))

  pub run_gone : all_cells (replaced leaves i (without_between (leaf_cells leaves i) from to ∷ [])) ≡ ahead ++ after
  run_gone =
      cells-replaced leaves i (without_between (leaf_cells leaves i) from to ∷ [])
      ∙ left (all_cells (take i leaves)) (take from (leaf_cells leaves i)) (drop to (leaf_cells leaves i)) (all_cells (drop (i + 1) leaves))

  module _ (new : List (List Cell)) (is : all_cells new ≡ all_cells (replaced leaves i (without_between (leaf_cells leaves i) from to ∷ []))) where
    pub out_count : length (all_cells leaves) ≡ length (all_cells new) + (to - from)
    out_count =
        let rest : List Cell = without_between (leaf_cells leaves i) from to in
        omega (arith, ap (λ (l : List Cell). length l) is, count-replaced leaves i (rest ∷ []) low, length-append rest [], length_without (leaf_cells leaves i) from to order inside)

    pub out_rise : Rise (all_cells leaves) → Rise (all_cells new)
    out_rise rise = subst Rise (sym (is ∙ run_gone)) (rise_without ahead run after (subst Rise run_round rise))

    pub out_outside : (code : List ℕ) → AllByRecursion (λ c. is_outside code c ≡ false) run → outside code (all_cells new) ≡ outside code (all_cells leaves)
    out_outside code all = ap (outside code) (is ∙ run_gone) ∙ sym (ap (outside code) run_round ∙ killed_some code ahead run after all)

-- ---- a key's cell goes

module _ (leaves new : List (List Cell)) (key : List ℕ) (i place : ℕ) (seat : IsSeat leaves key i) where
  pub removed_cells : StandsIn (leaf_cells leaves i) key place → all_cells new ≡ all_cells (replaced leaves i (without_between (leaf_cells leaves i) place (place + 1) ∷ [])) → all_cells new ≡ filter (is_other key) (all_cells leaves)
  removed_cells s is =
      let rest : List Cell = without_between (leaf_cells leaves i) place (place + 1) in
      is ∙ removed_here_alone leaves key i seat (rest ∷ []) (append-nil rest ∙ sym (removed_here key (leaf_cells leaves i) place s))

  pub removed_none : BelongsAt (leaf_cells leaves i) key place → all_cells leaves ≡ filter (is_other key) (all_cells leaves)
  removed_none b = nothing_removed leaves key i seat (removed_nowhere key (leaf_cells leaves i) place b)

-- ---- no cell begins with some bytes

-- these cells aren't before a key
abbrev pub AreNotBefore : List Cell → List ℕ → Type 0
AreNotBefore cells key = AllByRecursion (λ c. bytes_cmp c.0 key ≡ Less → ⊥) cells

pub above_not_before : (cells : List Cell) (key : List ℕ) → AreAbove cells key → AreNotBefore cells key
above_not_before [] key h = tt
above_not_before (c ∷ cs) key h = ((λ e. let no : Greater ≡ Less = sym h.0 ∙ e in cc), above_not_before cs key h.1)

-- the first of these cells, where there is one, doesn't begin with the bytes
abbrev pub FirstOutside : List ℕ → List Cell → Type 0
FirstOutside code [] = Unit {0}
FirstOutside code (c ∷ cs) = starts_with nat_eq c.0 code ≡ false

pub all_outside : (code : List ℕ) (cells : List Cell) → AreNotBefore cells code → Rise cells → FirstOutside code cells → AllByRecursion (λ c. is_outside code c ≡ true) cells
all_outside code [] n r f = tt
all_outside code (c ∷ cs) n r f = let here : is_outside code c ≡ true = ap not f in (here, outside_behind code c cs n.0 here r.0)

-- none is left where the first that isn't before the bytes doesn't begin with them
pub none_left : (code : List ℕ) (xs ys : List Cell) → AreBelow xs code → AreNotBefore ys code → Rise ys → FirstOutside code ys → outside code (xs ++ ys) ≡ xs ++ ys
none_left code xs ys low n r f = filter_all (is_outside code) (xs ++ ys) (all_joined (λ (c : Cell). is_outside code c ≡ true) xs ys (below_outside code xs low) (all_outside code ys n r f))
