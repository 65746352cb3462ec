-- Leaves of which one is changed or cut in two, and the sizes of their cells.
use Rattle.std.proofs.Common.{◌≡◌, ◌≢◌, ℕ, zero, suc, ◌+◌, ◌-◌, ◌<◌, ◌≤◌, List, [], ◌∷◌, ◌++◌, length, take, drop, get_or, refl, sym, ap, subst, ◌∙◌, arith, add-one, append_assoc}
use Rattle.std.proofs.lemmas.List.{take-append-drop, length-append, length-drop, take-take, drop-drop, length-take-le}
use Rattle.std.specs.declared.cmp.Ordering.{Ordering}
use Rattle.std.specs.declared.cmp.Ordering.TheVariants.{Less, Equal, Greater}
use Rattle.std.specs.List.{flat_map}
use Rattle.std.proofs.lemmas.Grind.{flat_map-append}
use Rattle.std.specs.FinMap as globals
use Rattle.std.specs.FinMap.Entries as lists
use Rattle.journal_defs.specs.Leaves.{Cell, ROOM, spelled_cell}
use Rattle.block_fmt.specs.Cells.{AreBelow, AreAbove, StandsIn, BelongsAt, size_of, without_between, cell_at}
use Rattle.block_fmt.proofs.CellPlaces.{size_cons, size_split}
use Rattle.block_fmt.proofs.Order as order
use Rattle.gvt_leaf.specs.Chained.{leaf_cells, replaced}
use Rattle.gvt_leaf.specs.Edits.{cell_size}
use Rattle.gvt_leaf.proofs.Bytes.{same_bytes}
use Rattle.gvt_leaf.proofs.Updates.{put_behind, cut_cell}
use Rattle.global_defs.proofs.Basics.{bytes_cmp}

-- ---- lists of leaves

pub replaced_there : (leaves : List (List Cell)) (i : ℕ) (new : List Cell) (news : List (List Cell)) → i < length leaves → leaf_cells (replaced leaves i (new ∷ news)) i ≡ new
replaced_there [] i new news low = absurd (omega arith)
replaced_there (l ∷ ls) zero new news low = refl
replaced_there (l ∷ ls) (suc i) new news low = ap (λ k. get_or (take i ls ++ ((new ∷ news) ++ drop k (l ∷ ls))) i []) (add-one (suc i)) ∙ ap (λ k. get_or (take i ls ++ ((new ∷ news) ++ drop k ls)) i []) (sym (add-one i)) ∙ replaced_there ls i new news (omega arith)

pub second_there : (leaves : List (List Cell)) (i : ℕ) (first second : List Cell) → i < length leaves → leaf_cells (replaced leaves i (first ∷ second ∷ [])) (i + 1) ≡ second
second_there leaves i first second low = ap (leaf_cells (replaced leaves i (first ∷ second ∷ []))) (add-one i) ∙ by leaves i low
  where
    by : (leaves : List (List Cell)) (i : ℕ) → i < length leaves → get_or (take i leaves ++ ((first ∷ second ∷ []) ++ drop (i + 1) leaves)) (suc i) [] ≡ second
    by [] i low = absurd (omega arith)
    by (l ∷ ls) zero low = refl
    by (l ∷ ls) (suc i) low = ap (λ k. get_or (take i ls ++ ((first ∷ second ∷ []) ++ drop k (l ∷ ls))) (suc i) []) (add-one (suc i)) ∙ ap (λ k. get_or (take i ls ++ ((first ∷ second ∷ []) ++ drop k ls)) (suc i) []) (sym (add-one i)) ∙ by ls i (omega arith)

pub length-replaced : (leaves : List (List Cell)) (i : ℕ) (news : List (List Cell)) → i < length leaves → length (replaced leaves i news) + 1 ≡ length leaves + length news
length-replaced leaves i news low =
    omega (arith, length-append (take i leaves) (news ++ drop (i + 1) leaves), length-append news (drop (i + 1) leaves), length-take-le i leaves (omega arith), length-drop (i + 1) leaves)

pub replaced_again : (leaves : List (List Cell)) (i : ℕ) (old : List Cell) (olds news : List (List Cell)) → i < length leaves → replaced (replaced leaves i (old ∷ olds)) i news ≡ replaced leaves i (news ++ olds)
replaced_again [] i old olds news low = absurd (omega arith)
replaced_again (l ∷ ls) zero old olds news low = sym (append_assoc news olds ls)
replaced_again (l ∷ ls) (suc i) old olds news low = rw (add-one (suc i)) (ap (λ (x : List (List Cell)). l ∷ x) (by (replaced_again ls i old olds news (omega arith))))
  where
    by : replaced (replaced ls i (old ∷ olds)) i news ≡ replaced ls i (news ++ olds)
        → take i (take i ls ++ ((old ∷ olds) ++ drop (suc i) ls)) ++ (news ++ drop (suc i) (take i ls ++ ((old ∷ olds) ++ drop (suc i) ls))) ≡ take i ls ++ ((news ++ olds) ++ drop (suc i) ls)
    by h = rw (add-one i) at h

pub replaced_second : (leaves : List (List Cell)) (i : ℕ) (first second new : List Cell) → i < length leaves → replaced (replaced leaves i (first ∷ second ∷ [])) (i + 1) (new ∷ []) ≡ replaced leaves i (first ∷ new ∷ [])
replaced_second leaves i first second new low = rw (add-one i, add-one (suc i)) (by leaves i low)
  where
    by : (leaves : List (List Cell)) (i : ℕ) → i < length leaves
        → take (suc i) (take i leaves ++ ((first ∷ second ∷ []) ++ drop (suc i) leaves)) ++ ((new ∷ []) ++ drop (suc (suc i)) (take i leaves ++ ((first ∷ second ∷ []) ++ drop (suc i) leaves)))
        ≡ take i leaves ++ ((first ∷ new ∷ []) ++ drop (suc i) leaves)
    by [] i low = absurd (omega arith)
    by (l ∷ ls) zero low = refl
    by (l ∷ ls) (suc i) low = ap (λ (x : List (List Cell)). l ∷ x) (by ls i (omega arith))

-- ---- sizes

pub size-append : (xs ys : List Cell) → size_of (xs ++ ys) ≡ size_of xs + size_of ys
size-append xs ys = ap length (flat_map-append spelled_cell xs ys) ∙ length-append (flat_map spelled_cell xs) (flat_map spelled_cell ys)

-- a cell more adds no more than its size
pub put_size : (key value : List ℕ) (cells : List Cell) → size_of (globals.put bytes_cmp key value cells) ≤ size_of cells + cell_size (key, value)
put_size key value [] = omega (arith, size_cons (key, value) [])
put_size key value (c ∷ cs) = by (bytes_cmp key c.0) refl (put_size key value cs)
  where
    by : (o : Ordering) → bytes_cmp key c.0 ≡ o → size_of (globals.put bytes_cmp key value cs) ≤ size_of cs + cell_size (key, value)
        → size_of (lists.by_order o ((key, value) ∷ c ∷ cs) ((c.0, value) ∷ cs) (c ∷ globals.put bytes_cmp key value cs)) ≤ size_of (c ∷ cs) + cell_size (key, value)
    by Less e h = omega (arith, size_cons (key, value) (c ∷ cs))
    by Equal e h = let same : cell_size (c.0, value) ≡ cell_size (key, value) = ap (λ (k : List ℕ). cell_size (k, value)) (sym (same_bytes key c.0 e)) in omega (arith, size_cons (c.0, value) cs, size_cons c cs, same)
    by Greater e h = omega (arith, size_cons c (globals.put bytes_cmp key value cs), size_cons c cs, h)

pub new_size : (key value : List ℕ) (cells : List Cell) (at : ℕ) → BelongsAt cells key at → size_of (globals.put bytes_cmp key value cells) ≡ size_of cells + cell_size (key, value)
new_size key value cells at b =
    let put : size_of (globals.put bytes_cmp key value cells) ≡ size_of (take at cells ++ ((key, value) ∷ drop at cells)) = ap size_of (order.put_belongs cells key value at b) in
    omega (arith, put, size-append (take at cells) ((key, value) ∷ drop at cells), size_cons (key, value) (drop at cells), size_split at cells)

-- ---- a cut that fits

pub below_front : (n : ℕ) (xs : List Cell) (key : List ℕ) → AreBelow xs key → AreBelow (take n xs) key
below_front zero xs key h = tt
below_front (suc n) [] key h = tt
below_front (suc n) (x ∷ xs) key h = (h.0, below_front n xs key h.1)

pub above_rest : (n : ℕ) (xs : List Cell) (key : List ℕ) → AreAbove xs key → AreAbove (drop n xs) key
above_rest zero xs key h = h
above_rest (suc n) [] key h = tt
above_rest (suc n) (x ∷ xs) key h = above_rest n xs key h.1

pub below_cut : (cells : List Cell) (key : List ℕ) (place at : ℕ) → BelongsAt cells key place → at ≤ place → AreBelow (take at cells) key
below_cut cells key place at b low = subst (λ (l : List Cell). AreBelow l key) (take-take at place cells low) (below_front at (take place cells) key b.before)

pub above_cut : (cells : List Cell) (key : List ℕ) (place at : ℕ) → BelongsAt cells key place → place ≤ at → AreAbove (drop at cells) key
above_cut cells key place at b low =
    let sum : place + (at - place) ≡ at = omega arith in
    subst (λ (l : List Cell). AreAbove l key) (drop-drop (at - place) place cells ∙ ap (λ n. drop n cells) sum) (above_rest (at - place) (drop place cells) key b.after)

-- the cell goes into the part behind the cut
pub put_after : (key value : List ℕ) (cells : List Cell) (place at : ℕ) → BelongsAt cells key place → at ≤ place → take at cells ++ globals.put bytes_cmp key value (drop at cells) ≡ globals.put bytes_cmp key value cells
put_after key value cells place at b low =
    sym (order.put_behind key value (take at cells) (drop at cells) (below_cut cells key place at b low)) ∙ ap (globals.put bytes_cmp key value) (take-append-drop at cells)

-- or before it
pub put_ahead : (key value : List ℕ) (cells : List Cell) (place at : ℕ) → BelongsAt cells key place → place ≤ at → globals.put bytes_cmp key value (take at cells) ++ drop at cells ≡ globals.put bytes_cmp key value cells
put_ahead key value cells place at b low =
    sym (put_behind key value (take at cells) (drop at cells) (above_cut cells key place at b low)) ∙ ap (globals.put bytes_cmp key value) (take-append-drop at cells)

-- two parts that fit each, and not together, have cells
pub both_some : (first second cells : List Cell) → first ++ second ≡ cells → ROOM < size_of cells → size_of first ≤ ROOM → size_of second ≤ ROOM → (first ≢ []) × (second ≢ [])
both_some first second cells is full low high =
    let all : size_of first + size_of second ≡ size_of cells = sym (size-append first second) ∙ ap size_of is in
    ((λ e. let none : size_of first ≡ 0 = ap size_of e in omega (arith, all, full, high, none)), λ e. let none : size_of second ≡ 0 = ap size_of e in omega (arith, all, full, low, none))

pub put_some : (key value : List ℕ) (cells : List Cell) → globals.put bytes_cmp key value cells ≢ []
put_some key value [] e = cc
put_some key value (c ∷ cs) e = by (bytes_cmp key c.0) e
  where
    by : (o : Ordering) → lists.by_order o ((key, value) ∷ c ∷ cs) ((c.0, value) ∷ cs) (c ∷ globals.put bytes_cmp key value cs) ≡ [] → ⊥
    by Less e = cc
    by Equal e = cc
    by Greater e = cc

-- how many cells there are then
pub length_new : (key value : List ℕ) (cells : List Cell) (at : ℕ) → BelongsAt cells key at → length (globals.put bytes_cmp key value cells) ≡ length cells + 1
length_new key value cells at b =
    let put : length (globals.put bytes_cmp key value cells) ≡ length (take at cells ++ ((key, value) ∷ drop at cells)) = ap length (order.put_belongs cells key value at b) in
    let whole : length (take at cells) + length (drop at cells) ≡ length cells = sym (length-append (take at cells) (drop at cells)) ∙ ap length (take-append-drop at cells) in
    omega (arith, put, whole, length-append (take at cells) ((key, value) ∷ drop at cells))

pub length_over : (key value : List ℕ) (cells : List Cell) (at : ℕ) → StandsIn cells key at → length (globals.put bytes_cmp key value cells) ≡ length cells
length_over key value cells at s =
    let put : length (globals.put bytes_cmp key value cells) ≡ length (take at cells ++ ((key, value) ∷ drop (at + 1) cells)) = ap length (order.put_stands cells key value at s) in
    let whole : length cells ≡ length (take at cells ++ (cell_at cells at ∷ drop (at + 1) cells)) = ap length (cut_cell cells at s.inside) in
    omega (arith, put, whole, length-append (take at cells) ((key, value) ∷ drop (at + 1) cells), length-append (take at cells) (cell_at cells at ∷ drop (at + 1) cells))

pub length_without : (cells : List Cell) (from to : ℕ) → from ≤ to → to ≤ length cells → length cells ≡ length (without_between cells from to) + (to - from)
length_without cells from to order inside =
    omega (arith, length-append (take from cells) (drop to cells), length-take-le from cells (omega arith), length-drop to cells)
