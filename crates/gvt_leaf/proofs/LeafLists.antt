-- Lists of leaves, and the cells of all of them.
use Rattle.std.proofs.Common.{◌≡◌, ◌≢◌, ℕ, zero, suc, ◌+◌, ◌<◌, List, [], ◌∷◌, ◌++◌, length, take, drop, get_or, refl, sym, ap, subst, ◌∙◌, arith, add-one}
use Rattle.std.proofs.lemmas.List.{take-append-drop, drop_more}
use Rattle.std.specs.declared.cmp.Ordering.{Ordering}
use Rattle.std.specs.declared.cmp.Ordering.TheVariants.{Less, Equal, Greater}
use Rattle.std.specs.List.{AllByRecursion}
use Rattle.std.proofs.lemmas.Grind.{flat_map-append}
use Rattle.journal_defs.specs.Leaves.{Cell}
use Rattle.block_fmt.specs.Cells.{AreBelow, AreAbove, cell_at}
use Rattle.gvt_leaf.specs.Chained.{leaf_cells, all_cells, replaced}
use Rattle.gvt_leaf.specs.Order.{Rise}
use Rattle.gvt_leaf.proofs.Bytes.{above_flips, below_flips, same_bytes, rise_before, rise_second, below_more, above_less}
use Rattle.journal_laws.proofs.ImageSteps.{all_both as all_joined}
use Rattle.global_defs.proofs.Basics.{bytes_cmp}

pub cells-append : (xs ys : List (List Cell)) → all_cells (xs ++ ys) ≡ all_cells xs ++ all_cells ys
cells-append xs ys = flat_map-append (λ (l : List Cell). l) xs ys

pub cut_leaf : (leaves : List (List Cell)) (i : ℕ) → i < length leaves → leaves ≡ take i leaves ++ (leaf_cells leaves i ∷ drop (i + 1) leaves)
cut_leaf leaves i low = sym (take-append-drop i leaves) ∙ ap (λ (l : List (List Cell)). take i leaves ++ l) (drop_more leaves i [] low)

-- the cells before a leaf, its own, and those behind
pub cells_round : (leaves : List (List Cell)) (i : ℕ) → i < length leaves
    → all_cells leaves ≡ all_cells (take i leaves) ++ (leaf_cells leaves i ++ all_cells (drop (i + 1) leaves))
cells_round leaves i low = ap all_cells (cut_leaf leaves i low) ∙ cells-append (take i leaves) (leaf_cells leaves i ∷ drop (i + 1) leaves)

pub cells-replaced : (leaves : List (List Cell)) (i : ℕ) (news : List (List Cell)) → all_cells (replaced leaves i news) ≡ all_cells (take i leaves) ++ (all_cells news ++ all_cells (drop (i + 1) leaves))
cells-replaced leaves i news = cells-append (take i leaves) (news ++ drop (i + 1) leaves) ∙ ap (λ (l : List Cell). all_cells (take i leaves) ++ l) (cells-append news (drop (i + 1) leaves))

-- a leaf behind the first has cells
pub leaf_filled : (leaves : List (List Cell)) (i : ℕ) → AllByRecursion (λ l. l ≢ []) (drop 1 leaves) → i < length leaves → 0 < i → leaf_cells leaves i ≢ []
leaf_filled leaves zero all low some = absurd (omega arith)
leaf_filled [] (suc i) all low some = absurd (omega arith)
leaf_filled (l ∷ ls) (suc i) all low some = there ls i all (omega arith)
  where
    there : (ls : List (List Cell)) (i : ℕ) → AllByRecursion (λ l. l ≢ []) ls → i < length ls → get_or ls i [] ≢ []
    there [] i all low = absurd (omega arith)
    there (l ∷ ls) zero all low = all.0
    there (l ∷ ls) (suc i) all low = there ls i all.1 (omega arith)

pub some_cells : (cs : List Cell) → cs ≢ [] → 0 < length cs
some_cells [] h = absurd (h refl)
some_cells (c ∷ cs) h = omega arith

-- cells with a first one
pub first_there : (cs : List Cell) → cs ≢ [] → cs ≡ cell_at cs 0 ∷ drop 1 cs
first_there [] h = absurd (h refl)
first_there (c ∷ cs) h = refl

-- the cells from a leaf on that has some
pub cells_from : (leaves : List (List Cell)) (i : ℕ) → i < length leaves → leaf_cells leaves i ≢ []
    → all_cells leaves ≡ all_cells (take i leaves) ++ (cell_at (leaf_cells leaves i) 0 ∷ (drop 1 (leaf_cells leaves i) ++ all_cells (drop (i + 1) leaves)))
cells_from leaves i low some =
    cells_round leaves i low ∙ ap (λ (l : List Cell). all_cells (take i leaves) ++ (l ++ all_cells (drop (i + 1) leaves))) (first_there (leaf_cells leaves i) some)

pub rest_from : (leaves : List (List Cell)) (i : ℕ) → i < length leaves → leaf_cells leaves i ≢ []
    → all_cells (drop i leaves) ≡ cell_at (leaf_cells leaves i) 0 ∷ (drop 1 (leaf_cells leaves i) ++ all_cells (drop (i + 1) leaves))
rest_from leaves i low some =
    ap all_cells (drop_more leaves i [] low) ∙ ap (λ (l : List Cell). l ++ all_cells (drop (i + 1) leaves)) (first_there (leaf_cells leaves i) some)

-- where a leaf begins behind a key, all from it on is above that
pub above_from : (leaves : List (List Cell)) (key : List ℕ) (i : ℕ) → Rise (all_cells leaves) → i < length leaves → leaf_cells leaves i ≢ []
    → bytes_cmp key (cell_at (leaf_cells leaves i) 0).0 ≡ Less → AreAbove (all_cells (drop i leaves)) key
above_from leaves key i rise low some behind =
    let c : Cell = cell_at (leaf_cells leaves i) 0 in
    let rest : List Cell = drop 1 (leaf_cells leaves i) ++ all_cells (drop (i + 1) leaves) in
    let risen : Rise (c ∷ rest) = rise_second (all_cells (take i leaves)) (c ∷ rest) (subst Rise (cells_from leaves i low some) rise) in
    let high : bytes_cmp c.0 key ≡ Greater = below_flips key c.0 behind in
    subst (λ (l : List Cell). AreAbove l key) (sym (rest_from leaves i low some)) (high, above_less rest c.0 key high risen.0)

-- where it doesn't, all before it is below that
pub below_to : (leaves : List (List Cell)) (key : List ℕ) (i : ℕ) → Rise (all_cells leaves) → i < length leaves → leaf_cells leaves i ≢ []
    → (bytes_cmp key (cell_at (leaf_cells leaves i) 0).0 ≡ Less → ⊥) → AreBelow (all_cells (take i leaves)) key
below_to leaves key i rise low some not_behind =
    let c : Cell = cell_at (leaf_cells leaves i) 0 in
    let rest : List Cell = drop 1 (leaf_cells leaves i) ++ all_cells (drop (i + 1) leaves) in
    let before : AreBelow (all_cells (take i leaves)) c.0 = rise_before (all_cells (take i leaves)) c rest (subst Rise (cells_from leaves i low some) rise) in
    by (bytes_cmp key c.0) refl before
  where
    by : (o : Ordering) → bytes_cmp key (cell_at (leaf_cells leaves i) 0).0 ≡ o → AreBelow (all_cells (take i leaves)) (cell_at (leaf_cells leaves i) 0).0 → AreBelow (all_cells (take i leaves)) key
    by Less e before = absurd (not_behind e)
    by Equal e before = subst (λ (k : List ℕ). AreBelow (all_cells (take i leaves)) k) (sym (same_bytes key (cell_at (leaf_cells leaves i) 0).0 e)) before
    by Greater e before = below_more (all_cells (take i leaves)) (cell_at (leaf_cells leaves i) 0).0 key (above_flips key (cell_at (leaf_cells leaves i) 0).0 e) before

pub filled_past : (ls : List (List Cell)) (i : ℕ) → AllByRecursion (λ l. l ≢ []) ls → AllByRecursion (λ l. l ≢ []) (drop i ls)
filled_past ls zero all = all
filled_past [] (suc i) all = tt
filled_past (l ∷ ls) (suc i) all = filled_past ls i all.1

pub filled_to : (ls : List (List Cell)) (i : ℕ) → AllByRecursion (λ l. l ≢ []) ls → AllByRecursion (λ l. l ≢ []) (take i ls)
filled_to ls zero all = tt
filled_to [] (suc i) all = tt
filled_to (l ∷ ls) (suc i) all = (all.0, filled_to ls i all.1)

-- leaves with others in place of one stay filled
pub filled-replaced : (leaves : List (List Cell)) (i : ℕ) (new : List Cell) (news : List (List Cell)) → AllByRecursion (λ l. l ≢ []) (drop 1 leaves) → i < length leaves
    → (0 < i → new ≢ []) → AllByRecursion (λ l. l ≢ []) news → AllByRecursion (λ l. l ≢ []) (drop 1 (replaced leaves i (new ∷ news)))
filled-replaced [] i new news all low here more = absurd (omega arith)
filled-replaced (l ∷ ls) zero new news all low here more = all_joined (λ (l : List Cell). l ≢ []) news ls more all
filled-replaced (l ∷ ls) (suc i) new news all low here more = rw (add-one (suc i))
    (all_joined (λ (l : List Cell). l ≢ []) (take i ls) ((new ∷ news) ++ drop (suc i) ls) (filled_to ls i all)
    (all_joined (λ (l : List Cell). l ≢ []) (new ∷ news) (drop (suc i) ls) (here (omega arith), more) (filled_past ls (suc i) all)))
