-- A chain stays one where a leaf is cut in two.
use Rattle.std.proofs.Common.{◌≡◌, ◌≢◌, ℕ, ◌+◌, ◌<◌, ◌≤◌, ◌==◌, zero, suc, List, [], ◌∷◌, ◌++◌, length, take, drop, get_or, map, refl, sym, ap, subst, ◌∙◌, arith, append_assoc}
use Rattle.std.proofs.lemmas.Bool.Decides.{nat_tests}
use Rattle.std.proofs.lemmas.List.{get_or_read, take_more, take-append-drop, length-set}
use Rattle.std.specs.List.{AllByRecursion, insert}
use Rattle.journal_defs.specs.Leaves.{Leaf, IsLeaf}
use Rattle.block_fmt.specs.Cells.{with_cells}
use Rattle.block_pool.specs.Code.{Pool}
use Rattle.block_pool.specs.Pool.{leaf_at, changed}
use Rattle.gvt_leaf.specs.Links.{first_or, Lead, times, inside, one_if}
use Rattle.gvt_leaf.specs.Chained.{Chained, replaced, leaf_cells}
use Rattle.gvt_leaf.specs.Inside.{chained, IsChained}
use Rattle.gvt_leaf.specs.declared.chain.Chain.TheInside.{Inside}
use Rattle.gvt_leaf.proofs.Links.{times-append, times_itself}
use Rattle.gvt_leaf.proofs.Chaining.{Around, around, cells_replaced, forms_replaced, links_replaced, next_there, once_only, once_there, leaf-changed_same, leaf-changed_other}
use Rattle.gvt_leaf.proofs.Kept.{as_many, number_inside, leaf_there}

inside_once : (b count : ℕ) → inside b count ≤ 1
inside_once b count = grind (arith, nat_tests)

-- the new leaf's block stood nowhere
pub unused : (m count more : ℕ) (ns fs gs : List ℕ) → times m ns + times m fs ≡ inside m count → times m fs + inside m more ≡ times m gs + inside m count + one_if (m == m) → times m ns ≡ 0
unused m count more ns fs gs apart numbers = omega (arith, times_itself m, inside_once m more)

-- a number between others
pub times-insert : (b m i : ℕ) (ns : List ℕ) → times b (take i ns ++ (m ∷ drop i ns)) ≡ times b ns + one_if (m == b)
times-insert b m i ns =
    let cut : times b ns ≡ times b (take i ns) + times b (drop i ns) = ap (times b) (sym (take-append-drop i ns)) ∙ times-append b (take i ns) (drop i ns) in
    omega (arith, cut, times-append b (take i ns) (m ∷ drop i ns))

-- the order of the leaves with a new one behind a place
pub inserted : (ns : List ℕ) (i m : ℕ) → i < length ns → insert ns (i + 1) m ≡ take i ns ++ ((get_or ns i 0 ∷ m ∷ []) ++ drop (i + 1) ns)
inserted ns i m low =
    ap (λ (l : List ℕ). l ++ (m ∷ drop (i + 1) ns)) (take_more ns i 0 low)
    ∙ append_assoc (take i ns) (get_or ns i 0 ∷ []) (m ∷ drop (i + 1) ns)

-- what the cut leaves: the blocks, the free ones and the order
pub record IsSplit (v : Chained) (q : Pool) (gs os : List ℕ) (i at : ℕ) : Type 0 where
  pub linked : Lead (leaf_at q) os 0
  pub first : first_or 1 os ≡ 0
  pub apart : (b : ℕ) → times b os + times b gs ≡ inside b (length q.leaves)
  pub forms : AllByRecursion (λ b. IsLeaf (leaf_at q b)) os
  pub leaves : map (λ b. (leaf_at q b).cells) os ≡ replaced v.leaves i (take at (leaf_cells v.leaves i) ∷ drop at (leaf_cells v.leaves i) ∷ [])

module _ (c : Inside) (v : Chained) (inv : IsChained c) (view : chained c ≡ v) (p1 p2 : Pool) (gs : List ℕ) (i x m at : ℕ) (fresh : Leaf) (read : x ≡ get_or c.order.items i x)
    (seen : i < length v.leaves) (cut : p1 ≡ changed c.pool x (with_cells (leaf_at c.pool x) (take at (leaf_at c.pool x).cells)))
    (numbers : (b : ℕ) → times b c.free.items + inside b (length p2.leaves) ≡ times b gs + inside b (length p1.leaves) + one_if (m == b))
    (settled : leaf_at p2 m ≡ fresh) (rest : (b : ℕ) → b ≢ m → leaf_at p2 b ≡ leaf_at p1 b) (grows : length p1.leaves ≤ length p2.leaves) where
  low : i < length c.order.items
  low = as_many c v view i seen

  at_order : x ≡ get_or c.order.items i 0
  at_order = get_or_read c.order.items i x low read 0

  cut_count : length p1.leaves ≡ length c.pool.leaves
  cut_count = ap (λ (p : Pool). length p.leaves) cut ∙ length-set c.pool.leaves x (with_cells (leaf_at c.pool x) (take at (leaf_at c.pool x).cells))

  pub cut_below : x < length p2.leaves
  cut_below = omega (arith, number_inside c v inv view i x read seen, cut_count, grows)

  all_numbers : (b : ℕ) → times b c.free.items + inside b (length p2.leaves) ≡ times b gs + inside b (length c.pool.leaves) + one_if (m == b)
  all_numbers b = omega (arith, numbers b, ap (inside b) cut_count)

  new_one : times m c.order.items ≡ 0
  new_one = unused m (length c.pool.leaves) (length p2.leaves) c.order.items c.free.items gs (inv.apart m) (all_numbers m)

  other_one : x ≢ m
  other_one e = omega (arith, ap (λ n. times n c.order.items) (sym at_order ∙ e), once_there c.order.items i low, new_one)

  cut_here : leaf_at p2 x ≡ with_cells (leaf_at c.pool x) (take at (leaf_at c.pool x).cells)
  cut_here = rest x other_one ∙ ap (λ (p : Pool). leaf_at p x) cut ∙ leaf-changed_same c.pool x (with_cells (leaf_at c.pool x) (take at (leaf_at c.pool x).cells)) (number_inside c v inv view i x read seen)

  module _ (q : Pool) (os : List ℕ) (named : q ≡ changed p2 x (record { next = m; cells = (leaf_at p2 x).cells })) (form : IsLeaf (record { next = m; cells = (leaf_at p2 x).cells })) (more : IsLeaf fresh)
      (order : os ≡ insert c.order.items (i + 1) m) (next : fresh.next ≡ (leaf_at c.pool x).next) (cells : fresh.cells ≡ drop at (leaf_at c.pool x).cells) where
    abbrev l : Leaf
    l = record { next = m; cells = (leaf_at p2 x).cells }

    here : leaf_at q x ≡ l
    here = ap (λ (p : Pool). leaf_at p x) named ∙ leaf-changed_same p2 x l cut_below

    there : leaf_at q m ≡ fresh
    there = ap (λ (p : Pool). leaf_at p m) named ∙ leaf-changed_other p2 x l m (λ e. other_one (sym e)) ∙ settled

    others : (b : ℕ) → b ≢ x → b ≢ m → leaf_at q b ≡ leaf_at c.pool b
    others b other new = ap (λ (p : Pool). leaf_at p b) named ∙ leaf-changed_other p2 x l b other ∙ rest b new ∙ ap (λ (p : Pool). leaf_at p b) cut
        ∙ leaf-changed_other c.pool x (with_cells (leaf_at c.pool x) (take at (leaf_at c.pool x).cells)) b other

    count : length q.leaves ≡ length p2.leaves
    count = ap (λ (p : Pool). length p.leaves) named ∙ length-set p2.leaves x l

    round : Around (leaf_at c.pool) (leaf_at q) c.order.items i
    round = around (leaf_at c.pool) (leaf_at q) c.order.items i m low (once_only c.order.items c.free.items (length c.pool.leaves) i inv.apart low)
        new_one (λ b other new. others b (λ e. other (e ∙ at_order)) new)

    linked_apart : Lead (leaf_at q) os 0
    linked_apart = subst (λ (ns : List ℕ). Lead (leaf_at q) ns 0) (sym (order ∙ inserted c.order.items i m low)) (links_replaced (leaf_at c.pool) (leaf_at q) c.order.items i (m ∷ []) low round inv.linked (
      ap (λ b. (leaf_at q b).next) (sym at_order) ∙ ap (λ (n : Leaf). n.next) here,
      (ap (λ (n : Leaf). n.next) there ∙ next ∙ ap (λ b. (leaf_at c.pool b).next) at_order ∙ next_there (leaf_at c.pool) c.order.items i low inv.linked, tt),
    ))

    forms_apart : AllByRecursion (λ b. IsLeaf (leaf_at q b)) os
    forms_apart = subst (λ (ns : List ℕ). AllByRecursion (λ b. IsLeaf (leaf_at q b)) ns) (sym (order ∙ inserted c.order.items i m low))
        (forms_replaced (leaf_at c.pool) (leaf_at q) c.order.items i (get_or c.order.items i 0 ∷ m ∷ []) low round inv.forms
        (subst (λ b. IsLeaf (leaf_at q b)) at_order (subst IsLeaf (sym here) form), (subst IsLeaf (sym there) more, tt)))

    shown : (leaf_at c.pool x).cells ≡ leaf_cells v.leaves i
    shown = leaf_there c v view i x read seen

    leaves_apart : map (λ b. (leaf_at q b).cells) os ≡ replaced v.leaves i (take at (leaf_cells v.leaves i) ∷ drop at (leaf_cells v.leaves i) ∷ [])
    leaves_apart =
        ap (map (λ b. (leaf_at q b).cells)) (order ∙ inserted c.order.items i m low)
        ∙ cells_replaced (leaf_at c.pool) (leaf_at q) c.order.items i (get_or c.order.items i 0 ∷ m ∷ []) round
        ∙ (λ j. replaced (chained c).leaves i ((ap (λ b. (leaf_at q b).cells) (sym at_order) ∙ ap (λ (n : Leaf). n.cells) here ∙ ap (λ (n : Leaf). n.cells) cut_here ∙ ap (take at) shown) j
        ∷ (ap (λ (n : Leaf). n.cells) there ∙ cells ∙ ap (drop at) shown) j ∷ []))
        ∙ ap (λ (u : Chained). replaced u.leaves i (take at (leaf_cells v.leaves i) ∷ drop at (leaf_cells v.leaves i) ∷ [])) view

    numbers_apart : (b : ℕ) → times b os + times b gs ≡ inside b (length q.leaves)
    numbers_apart b = omega (arith, ap (times b) order, times-insert b m (i + 1) c.order.items, inv.apart b, all_numbers b, ap (inside b) count)

    first_still : first_or 1 os ≡ 0
    first_still = ap (first_or 1) (order ∙ inserted c.order.items i m low) ∙ same c.order.items i low ∙ inv.first
      where
        same : (ns : List ℕ) (i : ℕ) → i < length ns → first_or 1 (take i ns ++ ((get_or ns i 0 ∷ m ∷ []) ++ drop (i + 1) ns)) ≡ first_or 1 ns
        same [] i low = absurd (omega arith)
        same (n ∷ ns) zero low = refl
        same (n ∷ ns) (suc i) low = refl

    pub is_split : IsSplit v q gs os i at
    is_split = record { linked = linked_apart; first = first_still; apart = numbers_apart; forms = forms_apart; leaves = leaves_apart }
