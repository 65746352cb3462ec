-- A chain stays one where the cells of a leaf change.
use Rattle.std.proofs.Common.{◌≡◌, ◌≢◌, ℕ, ◌<◌, zero, suc, List, [], ◌∷◌, length, get_or, map, sym, ap, subst, ◌∙◌, arith}
use Rattle.std.proofs.lemmas.Bool.Decides.{nat_tests}
use Rattle.std.proofs.lemmas.List.{get_or_read, length-set, length-map}
use Rattle.std.specs.List.{AllByRecursion}
use Rattle.journal_defs.specs.Leaves.{Leaf, Cell, IsCell, IsLeaf}
use Rattle.block_pool.specs.Code.{Pool}
use Rattle.block_pool.specs.Pool.{leaf_at, changed}
use Rattle.gvt_leaf.specs.Links.{Lead, times, inside}
use Rattle.gvt_leaf.specs.Chained.{Chained, replaced, leaf_cells, all_cells}
use Rattle.gvt_leaf.specs.Inside.{chained, IsChained}
use Rattle.gvt_leaf.specs.declared.chain.Chain.TheInside.{Inside}
use Rattle.gvt_leaf.proofs.Chaining.{cut_at, Around, around, cells_replaced, forms_replaced, links_replaced, next_there, below_count, once_only, leaf-changed_same, leaf-changed_other}
use Rattle.journal_laws.proofs.ImageSteps.{all_both as all_joined}

-- as many leaves are shown as stand in the order
pub as_many : (c : Inside) (v : Chained) → chained c ≡ v → (i : ℕ) → i < length v.leaves → i < length c.order.items
as_many c v view i low = omega (arith, ap (λ (u : Chained). length u.leaves) view, length-map c.order.items (λ b. (leaf_at c.pool b).cells))

-- the block of a leaf is one of the pool's
pub number_inside : (c : Inside) (v : Chained) → IsChained c → chained c ≡ v → (i x : ℕ) → x ≡ get_or c.order.items i x → i < length v.leaves → x < length c.pool.leaves
number_inside c v inv view i x read seen =
    let low : i < length c.order.items = as_many c v view i seen in
    let is : x ≡ get_or c.order.items i 0 = get_or_read c.order.items i x low read 0 in
    let below = below_count c.order.items c.free.items (length c.pool.leaves) i inv.apart low in
    omega (arith, is, below)

-- the cells of a leaf are those of its block
pub leaf_there : (c : Inside) (v : Chained) → chained c ≡ v → (i x : ℕ) → x ≡ get_or c.order.items i x → i < length v.leaves → (leaf_at c.pool x).cells ≡ leaf_cells v.leaves i
leaf_there c v view i x read seen = there c.order.items i (as_many c v view i seen) read ∙ ap (λ (u : Chained). leaf_cells u.leaves i) view
  where
    there : (ns : List ℕ) (i : ℕ) → i < length ns → x ≡ get_or ns i x → (leaf_at c.pool x).cells ≡ get_or (map (λ b. (leaf_at c.pool b).cells) ns) i []
    there [] i low read = absurd (omega arith)
    there (n ∷ ns) zero low read = ap (λ b. (leaf_at c.pool b).cells) read
    there (n ∷ ns) (suc i) low read = there ns i (omega arith) read

-- the cells of leaves that have their form
pub all_forms : (leaf : ℕ → Leaf) (ns : List ℕ) → AllByRecursion (λ b. IsLeaf (leaf b)) ns → AllByRecursion IsCell (all_cells (map (λ b. (leaf b).cells) ns))
all_forms leaf [] all = tt
all_forms leaf (n ∷ ns) all = all_joined IsCell (leaf n).cells (all_cells (map (λ b. (leaf b).cells) ns)) all.0.cells (all_forms leaf ns all.1)

module _ (c : Inside) (v : Chained) (inv : IsChained c) (view : chained c ≡ v) (q : Pool) (i x : ℕ) (l : Leaf) (read : x ≡ get_or c.order.items i x) (seen : i < length v.leaves)
    (is : q ≡ changed c.pool x l) (next : l.next ≡ (leaf_at c.pool x).next) (form : IsLeaf l) where
  low : i < length c.order.items
  low = as_many c v view i seen

  there : x ≡ get_or c.order.items i 0
  there = get_or_read c.order.items i x low read 0

  here : leaf_at q x ≡ l
  here = ap (λ (p : Pool). leaf_at p x) is ∙ leaf-changed_same c.pool x l (number_inside c v inv view i x read seen)

  others : (b : ℕ) → b ≢ get_or c.order.items i 0 → leaf_at q b ≡ leaf_at c.pool b
  others b other = ap (λ (p : Pool). leaf_at p b) is ∙ leaf-changed_other c.pool x l b (λ e. other (e ∙ there))

  -- a block that is no block
  nowhere : times (length c.pool.leaves) c.order.items ≡ 0
  nowhere = grind (arith, nat_tests, inv.apart (length c.pool.leaves))

  round : Around (leaf_at c.pool) (leaf_at q) c.order.items i
  round = around (leaf_at c.pool) (leaf_at q) c.order.items i (length c.pool.leaves) low (once_only c.order.items c.free.items (length c.pool.leaves) i inv.apart low) nowhere (λ b other _. others b other)

  count : length q.leaves ≡ length c.pool.leaves
  count = ap (λ (p : Pool). length p.leaves) is ∙ length-set c.pool.leaves x l

  pub chained_still : IsChained (record { pool = q; order = c.order; free = c.free; spare = c.spare })
  chained_still = record {
    linked = subst (λ (ns : List ℕ). Lead (leaf_at q) ns 0) (sym (cut_at c.order.items i low)) (links_replaced (leaf_at c.pool) (leaf_at q) c.order.items i [] low round inv.linked
        (ap (λ b. (leaf_at q b).next) (sym there) ∙ ap (λ (m : Leaf). m.next) here ∙ next ∙ ap (λ b. (leaf_at c.pool b).next) there ∙ next_there (leaf_at c.pool) c.order.items i low inv.linked, tt));
    first = inv.first;
    apart = λ b. inv.apart b ∙ ap (inside b) (sym count);
    total = inv.total ∙ sym count;
    forms = subst (λ (ns : List ℕ). AllByRecursion (λ b. IsLeaf (leaf_at q b)) ns) (sym (cut_at c.order.items i low)) (forms_replaced (leaf_at c.pool) (leaf_at q) c.order.items i (get_or c.order.items i 0 ∷ []) low round inv.forms
        (subst (λ b. IsLeaf (leaf_at q b)) there (subst IsLeaf (sym here) form), tt));
    blanks = inv.blanks;
    room = omega (arith, inv.room, ap (λ (p : Pool). p.room) is);
    seats = omega (arith, inv.seats, count);
    frees = omega (arith, inv.frees, count);
  }

  pub leaves_still : map (λ b. (leaf_at q b).cells) c.order.items ≡ replaced v.leaves i (l.cells ∷ [])
  leaves_still =
      ap (map (λ b. (leaf_at q b).cells)) (cut_at c.order.items i low)
      ∙ cells_replaced (leaf_at c.pool) (leaf_at q) c.order.items i (get_or c.order.items i 0 ∷ []) round
      ∙ ap (λ (cells : List Cell). replaced (chained c).leaves i (cells ∷ [])) (ap (λ b. (leaf_at q b).cells) (sym there) ∙ ap (λ (m : Leaf). m.cells) here)
      ∙ ap (λ (u : Chained). replaced u.leaves i (l.cells ∷ [])) view
