-- A chain stays one where its leaves do, and what its blocks decode to.
use Rattle.std.proofs.Common.{◌≡◌, ◌≢◌, ℕ, ◌+◌, ◌<◌, ◌≤◌, List, [], ◌∷◌, ◌++◌, length, take, drop, vec_capacity, sym, ap, subst, ◌∙◌, arith, append-nil}
use Rattle.std.proofs.lemmas.Bool.Decides.{nat_tests}
use Rattle.std.proofs.lemmas.List.{take_more, length-append}
use Rattle.std.specs.List.{AllByRecursion}
use Rattle.std.specs.Prelude.{slice_index_or}
use Rattle.global_defs.specs.Entry.{Globals}
use Rattle.journal_defs.specs.Leaves.{Leaf, Cell, IsLeaf, Decodes, cells_of}
use Rattle.block_fmt.specs.Cells.{blank}
use Rattle.block_pool.specs.Pool.{leaf_at}
use Rattle.gvt_leaf.specs.Links.{Lead, first_or, inside, times}
use Rattle.gvt_leaf.specs.Chained.{leaf_cells, all_cells}
use Rattle.gvt_leaf.specs.Inside.{chained, IsChained}
use Rattle.gvt_leaf.specs.Stored.{blocks_in}
use Rattle.gvt_leaf.specs.declared.chain.Chain.TheInside.{Inside}
use Rattle.gvt_leaf.proofs.Decoding.{chain_decodes}
use Rattle.gvt_leaf.proofs.LeafLists.{cells-append}

-- the same leaves in the same blocks, with other memory
pub record AreSame (c d : Inside) : Type 0 where
  pub leaves : d.pool.leaves ≡ c.pool.leaves
  pub order : d.order.items ≡ c.order.items
  pub free : d.free.items ≡ c.free.items
  pub blanks : AllByRecursion (λ (l : Leaf). l.cells ≡ []) d.spare.items
  pub room : length d.spare.items ≤ d.pool.room
  pub seats : length c.pool.leaves + length d.spare.items ≤ vec_capacity d.order
  pub frees : length c.pool.leaves + length d.spare.items ≤ vec_capacity d.free

pub same_chained : (c d : Inside) → IsChained c → AreSame c d → IsChained d
same_chained c d inv s =
    let count : length d.pool.leaves ≡ length c.pool.leaves = ap (λ (ls : List Leaf). length ls) s.leaves in
    let orders : length d.order.items ≡ length c.order.items = ap (λ (ns : List ℕ). length ns) s.order in
    let frees : length d.free.items ≡ length c.free.items = ap (λ (ns : List ℕ). length ns) s.free in
    record {
      linked = subst (λ (ls : List Leaf). Lead (λ b. slice_index_or ls b blank) d.order.items 0) (sym s.leaves) (subst (λ (ns : List ℕ). Lead (leaf_at c.pool) ns 0) (sym s.order) inv.linked);
      first = ap (first_or 1) s.order ∙ inv.first;
      apart = λ b. (λ i. times b (s.order i) + times b (s.free i)) ∙ inv.apart b ∙ ap (inside b) (sym count);
      total = omega (arith, inv.total, count, orders, frees, d.order.ok.0, d.free.ok.0, c.order.ok.0, c.free.ok.0);
      forms = subst (λ (ls : List Leaf). AllByRecursion (λ b. IsLeaf (slice_index_or ls b blank)) d.order.items) (sym s.leaves)
          (subst (λ (ns : List ℕ). AllByRecursion (λ b. IsLeaf (leaf_at c.pool b)) ns) (sym s.order) inv.forms);
      blanks = s.blanks;
      room = s.room;
      seats = omega (arith, s.seats, count);
      frees = omega (arith, s.frees, count);
    }

-- the blocks of a chain decode to the globals whose cells they have
pub chained_decodes : (c : Inside) → IsChained c → (g : Globals) → AllByRecursion (λ l. l ≢ []) (drop 1 (chained c).leaves) → all_cells (chained c).leaves ≡ cells_of g → Decodes (blocks_in c.pool.leaves) g
chained_decodes c inv g filled is = chain_decodes c.pool c.order.items g inv.first inv.linked once below inv.forms filled is
  where
    once : times 0 c.order.items ≤ 1
    once = grind (arith, nat_tests, inv.apart 0)

    below : (b : ℕ) → 1 ≤ times b c.order.items → b < length c.pool.leaves
    below b some = grind (arith, nat_tests, inv.apart b, some)

-- the cells up to one leaf more
pub count_more : (leaves : List (List Cell)) (i : ℕ) → i < length leaves → length (all_cells (take (i + 1) leaves)) ≡ length (all_cells (take i leaves)) + length (leaf_cells leaves i)
count_more leaves i low =
    ap (λ (ls : List (List Cell)). length (all_cells ls)) (take_more leaves i [] low)
    ∙ ap (λ (cs : List Cell). length cs) (cells-append (take i leaves) (leaf_cells leaves i ∷ []))
    ∙ ap (λ (cs : List Cell). length (all_cells (take i leaves) ++ cs)) (append-nil (leaf_cells leaves i))
    ∙ length-append (all_cells (take i leaves)) (leaf_cells leaves i)
