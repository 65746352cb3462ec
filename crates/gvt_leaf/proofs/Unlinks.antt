-- A chain stays one where a leaf is taken out.
use Rattle.std.proofs.Common.{◌≡◌, ◌≢◌, inl, inr, ℕ, ◌+◌, ◌<◌, ◌==◌, zero, suc, List, [], ◌∷◌, ◌++◌, length, take, drop, get_or, map, refl, sym, ap, subst, ◌∙◌, arith, add-one, append_assoc}
use Rattle.std.proofs.lemmas.Bool.{cases_eq}
use Rattle.std.proofs.lemmas.Bool.Decides.{nat_tests}
use Rattle.std.proofs.lemmas.List.{get_or_read, take_more, drop_more, map-append, take-map, drop-map, length-set}
use Rattle.std.specs.List.{AllByRecursion, remove}
use Rattle.journal_defs.specs.Leaves.{Leaf, Cell, IsLeaf}
use Rattle.block_pool.specs.Code.{Pool}
use Rattle.block_pool.specs.Pool.{leaf_at, changed}
use Rattle.gvt_leaf.specs.Links.{first_or, Lead, times, inside, one_if}
use Rattle.gvt_leaf.specs.Chained.{Chained, replaced}
use Rattle.gvt_leaf.specs.Inside.{chained, IsChained}
use Rattle.gvt_leaf.specs.declared.chain.Chain.TheInside.{Inside}
use Rattle.gvt_leaf.proofs.Links.{times-append, Agree, Lead-replaced, all-append, forms-agree}
use Rattle.gvt_leaf.proofs.Chaining.{cut_at, Around, around, next_there, once_only, leaf-changed_same, leaf-changed_other}
use Rattle.gvt_leaf.proofs.Kept.{as_many, number_inside}
use Rattle.journal_laws.proofs.ImageSteps.{all_both as all_joined}

-- the numbers round two neighbours
pub cut_two : (ns : List ℕ) (i : ℕ) → i + 1 < length ns → ns ≡ take i ns ++ ((get_or ns i 0 ∷ get_or ns (i + 1) 0 ∷ []) ++ drop (i + 1 + 1) ns)
cut_two ns i low = cut_at ns i (omega arith) ∙ ap (λ (l : List ℕ). take i ns ++ (get_or ns i 0 ∷ l)) (drop_more ns (i + 1) 0 low)

-- the order without the second of them
pub removed : (ns : List ℕ) (i : ℕ) → i + 1 < length ns → remove ns (i + 1) ≡ take i ns ++ ((get_or ns i 0 ∷ []) ++ drop (i + 1 + 1) ns)
removed ns i low =
    (λ j. take_more ns i 0 (omega arith) j ++ drop (sym (add-one (i + 1)) j) ns)
    ∙ append_assoc (take i ns) (get_or ns i 0 ∷ []) (drop (i + 1 + 1) ns)

pub times-removed : (b i : ℕ) (ns : List ℕ) → i + 1 < length ns → times b ns ≡ times b (remove ns (i + 1)) + one_if (get_or ns (i + 1) 0 == b)
times-removed b i ns low =
    let n : ℕ = get_or ns i 0 in
    let g : ℕ = get_or ns (i + 1) 0 in
    let rest : List ℕ = drop (i + 1 + 1) ns in
    omega (arith, ap (times b) (cut_two ns i low), ap (times b) (removed ns i low), times-append b (take i ns) ((n ∷ g ∷ []) ++ rest), times-append b (take i ns) ((n ∷ []) ++ rest))

-- what taking a leaf out leaves
pub record IsUnlinked (v : Chained) (q : Pool) (hs os : List ℕ) (i : ℕ) : Type 0 where
  pub linked : Lead (leaf_at q) os 0
  pub first : first_or 1 os ≡ 0
  pub apart : (b : ℕ) → times b os + times b hs ≡ inside b (length q.leaves)
  pub forms : AllByRecursion (λ b. IsLeaf (leaf_at q b)) os
  pub leaves : map (λ b. (leaf_at q b).cells) os ≡ replaced v.leaves (i + 1) []

module _ (c : Inside) (v : Chained) (inv : IsChained c) (view : chained c ≡ v) (q : Pool) (hs os : List ℕ) (i x g n : ℕ) (read : x ≡ get_or c.order.items i x)
    (seen : i + 1 < length v.leaves) (gone : g ≡ get_or c.order.items (i + 1) g) (order : os ≡ remove c.order.items (i + 1))
    (pushed : hs ≡ c.free.items ++ g ∷ []) (linked : q ≡ changed c.pool x (record { next = n; cells = (leaf_at c.pool x).cells })) (form : IsLeaf (record { next = n; cells = (leaf_at c.pool x).cells }))
    (next : n ≡ (leaf_at c.pool g).next) where
  abbrev l : Leaf
  l = record { next = n; cells = (leaf_at c.pool x).cells }

  here : leaf_at q x ≡ l
  here = ap (λ (p : Pool). leaf_at p x) linked ∙ leaf-changed_same c.pool x l (number_inside c v inv view i x read (omega (arith, seen)))

  others : (b : ℕ) → b ≢ x → leaf_at q b ≡ leaf_at c.pool b
  others b other = ap (λ (p : Pool). leaf_at p b) linked ∙ leaf-changed_other c.pool x l b other

  count : length q.leaves ≡ length c.pool.leaves
  count = ap (λ (p : Pool). length p.leaves) linked ∙ length-set c.pool.leaves x l

  low : i + 1 < length c.order.items
  low = as_many c v view (i + 1) seen

  at : x ≡ get_or c.order.items i 0
  at = get_or_read c.order.items i x (omega (arith, low)) read 0

  behind_it : g ≡ get_or c.order.items (i + 1) 0
  behind_it = get_or_read c.order.items (i + 1) g low gone 0

  nowhere : times (length c.pool.leaves) c.order.items ≡ 0
  nowhere = grind (arith, nat_tests, inv.apart (length c.pool.leaves))

  round : Around (leaf_at c.pool) (leaf_at q) c.order.items i
  round = around (leaf_at c.pool) (leaf_at q) c.order.items i (length c.pool.leaves) (omega (arith, low)) (once_only c.order.items c.free.items (length c.pool.leaves) i inv.apart (omega (arith, low))) nowhere
      (λ b other _. others b (λ e. other (e ∙ at)))

  rest : Agree (leaf_at c.pool) (leaf_at q) (drop (i + 1 + 1) c.order.items)
  rest = (subst (λ (ns : List ℕ). Agree (leaf_at c.pool) (leaf_at q) ns) (drop_more c.order.items (i + 1) 0 low) round.behind).1

  linked_without : Lead (leaf_at q) os 0
  linked_without = subst (λ (ns : List ℕ). Lead (leaf_at q) ns 0) (sym (order ∙ removed c.order.items i low))
      (Lead-replaced (leaf_at c.pool) (leaf_at q) (take i c.order.items) (get_or c.order.items i 0) (get_or c.order.items (i + 1) 0 ∷ []) [] (drop (i + 1 + 1) c.order.items) 0 round.before rest
      (ap (λ b. (leaf_at q b).next) (sym at) ∙ ap (λ (n : Leaf). n.next) here ∙ next ∙ ap (λ b. (leaf_at c.pool b).next) behind_it ∙ next_there (leaf_at c.pool) c.order.items (i + 1) low inv.linked, tt)
      (subst (λ (ns : List ℕ). Lead (leaf_at c.pool) ns 0) (cut_two c.order.items i low) inv.linked))

  forms_without : AllByRecursion (λ b. IsLeaf (leaf_at q b)) os
  forms_without =
      let old : ℕ → Type 0 = λ b. IsLeaf (leaf_at c.pool b) in
      let new : ℕ → Type 0 = λ b. IsLeaf (leaf_at q b) in
      let all = all-append old (take i c.order.items) ((get_or c.order.items i 0 ∷ get_or c.order.items (i + 1) 0 ∷ []) ++ drop (i + 1 + 1) c.order.items) (subst (λ (ns : List ℕ). AllByRecursion old ns) (cut_two c.order.items i low) inv.forms) in
      subst (λ (ns : List ℕ). AllByRecursion new ns) (sym (order ∙ removed c.order.items i low))
      (all_joined new (take i c.order.items) ((get_or c.order.items i 0 ∷ []) ++ drop (i + 1 + 1) c.order.items) (forms-agree (leaf_at c.pool) (leaf_at q) (take i c.order.items) round.before all.0)
      (subst (λ b. IsLeaf (leaf_at q b)) at (subst IsLeaf (sym here) form), forms-agree (leaf_at c.pool) (leaf_at q) (drop (i + 1 + 1) c.order.items) rest all.1.1.1))

  same_cells : (b : ℕ) → (leaf_at q b).cells ≡ (leaf_at c.pool b).cells
  same_cells b = elim (cases_eq b x) [
    | inl e ↦ ap (λ n. (leaf_at q n).cells) e ∙ ap (λ (n : Leaf). n.cells) here ∙ ap (λ n. (leaf_at c.pool n).cells) (sym e)
    | inr other ↦ ap (λ (n : Leaf). n.cells) (others b other)
  ]

  cells_same : (ns : List ℕ) → map (λ b. (leaf_at q b).cells) ns ≡ map (λ b. (leaf_at c.pool b).cells) ns
  cells_same [] = refl
  cells_same (n ∷ ns) = λ j. same_cells n j ∷ cells_same ns j

  leaves_without : map (λ b. (leaf_at q b).cells) os ≡ replaced v.leaves (i + 1) []
  leaves_without =
      let f : ℕ → List Cell = λ b. (leaf_at c.pool b).cells in
      cells_same os ∙ ap (map f) order ∙ map-append f (take (i + 1) c.order.items) (drop (suc (i + 1)) c.order.items)
      ∙ (λ j. sym (take-map f (i + 1) c.order.items) j ++ sym (drop-map f (suc (i + 1)) c.order.items) j)
      ∙ ap (λ k. take (i + 1) (map f c.order.items) ++ drop k (map f c.order.items)) (sym (add-one (i + 1)))
      ∙ ap (λ (u : Chained). replaced u.leaves (i + 1) []) view

  numbers_without : (b : ℕ) → times b os + times b hs ≡ inside b (length q.leaves)
  numbers_without b =
      let same : one_if (g == b) ≡ one_if (get_or c.order.items (i + 1) 0 == b) = ap (λ n. one_if (n == b)) behind_it in
      omega (arith, ap (times b) order, times-removed b i c.order.items low, ap (times b) pushed, times-append b c.free.items (g ∷ []), inv.apart b, same, ap (inside b) count)

  first_without : first_or 1 os ≡ 0
  first_without = ap (first_or 1) (order ∙ removed c.order.items i low) ∙ same c.order.items i low ∙ inv.first
    where
      same : (ns : List ℕ) (i : ℕ) → i + 1 < length ns → first_or 1 (take i ns ++ ((get_or ns i 0 ∷ []) ++ drop (i + 1 + 1) ns)) ≡ first_or 1 ns
      same [] i low = absurd (omega arith)
      same (n ∷ ns) zero low = refl
      same (n ∷ ns) (suc i) low = refl

  pub is_unlinked : IsUnlinked v q hs os i
  is_unlinked = record { linked = linked_without; first = first_without; apart = numbers_without; forms = forms_without; leaves = leaves_without }
