-- The map that a chain of leaves decodes to.
use Rattle.std.proofs.Common.{◌≡◌, ◌≢◌, ◌⊎◌, inl, inr, ℕ, ◌≤◌, Bool, true, false, ◌&&◌, List, [], ◌∷◌, length, map, flat_map, Option, IsTrue, T, refl, sym, ◌∙◌, ap, subst}
use Rattle.std.specs.List.{AllByRecursion}
use Rattle.std.specs.declared.cmp.Ordering.{Ordering}
use Rattle.std.specs.declared.cmp.Ordering.TheVariants.{Less, Equal, Greater}
use Rattle.std.specs.Ordering.{nat_cmp, is_lt}
use Rattle.std.specs.Cmp.Lexicographic.{slice_cmp}
use Rattle.std.specs.FinMap as globals
use Rattle.std.specs.FinMap.Entries as lists
use Rattle.global_defs.specs.declared.limits.TheConstants.{LONGEST_VALUE}
use Rattle.global_defs.specs.Key.{Key, key_cmp}
use Rattle.global_defs.specs.Valid.{is_key}
use Rattle.global_defs.specs.Encoded.{encoded}
use Rattle.global_defs.specs.Entry.{Globals}
use Rattle.global_defs.proofs.Order.{key_total}
use Rattle.global_defs.proofs.KeyOrder.{key_ordered}
use Rattle.journal_defs.specs.Leaves.{Cell, Leaf, IsCell, StandsAt, IsChain, HaveCells, KeysRise, Decodes, cells_of}
use Rattle.journal_laws.proofs.ImageSteps.{all_both}
use Rattle.block_laws.specs.Nodes.{HaveKeys, HaveShortValues}
use Rattle.block_laws.proofs.Chains.{first_T, second_T, less_of}

-- one step of the walk along a chain
abbrev Walks : (ℕ → Option (List ℕ)) → ℕ → List Leaf → Type 0
Walks blocks b ls = (l : Leaf) × (ms : List Leaf) × (ls ≡ l ∷ ms) × StandsAt blocks b l × (((l.next ≡ 0) × (ms ≡ [])) ⊎ ((l.next ≢ 0) × IsChain blocks l.next ms))

pub walk : (blocks : ℕ → Option (List ℕ)) (b : ℕ) (ls : List Leaf) → IsChain blocks b ls → Walks blocks b ls
walk blocks b [] h = absurd h
walk blocks b (l ∷ []) h = (l, [], refl, h.0, inl (h.1, refl))
walk blocks b (l ∷ m ∷ ls) h = (l, m ∷ ls, refl, h.0, inr (h.1, h.2))

-- nodes with their values
abbrev Nodes : Type 0
Nodes = List (Key × List ℕ)

-- the nodes whose cells these are
abbrev nodes_of : (cs : List Cell) → AllByRecursion IsCell cs → Nodes
nodes_of [] all = []
nodes_of (c ∷ cs) all = (all.0.0.0, c.1) ∷ nodes_of cs all.1

cells_back : (cs : List Cell) (all : AllByRecursion IsCell cs) → map (λ e. (encoded e.0, e.1)) (nodes_of cs all) ≡ cs
cells_back [] all = refl
cells_back (c ∷ cs) all = λ i. (sym all.0.0.2 i, c.1) ∷ cells_back cs all.1 i

keys_back : (cs : List Cell) (all : AllByRecursion IsCell cs) → AllByRecursion (λ e. IsTrue (is_key e.0)) (nodes_of cs all)
keys_back [] all = tt
keys_back (c ∷ cs) all = (all.0.0.1, keys_back cs all.1)

values_back : (cs : List Cell) (all : AllByRecursion IsCell cs) → AllByRecursion (λ e. length e.1 ≤ LONGEST_VALUE) (nodes_of cs all)
values_back [] all = tt
values_back (c ∷ cs) all = (all.0.1, values_back cs all.1)

both_T : (a b : Bool) → T a → T b → T (a && b)
both_T true b p q = q
both_T false b p q = absurd p

less_T : (o : Ordering) → o ≡ Less → T (is_lt o)
less_T Less h = tt
less_T Equal h = cc
less_T Greater h = cc

below_more : (x y : Key) (es : Nodes) → key_cmp x y ≡ Less → T (lists.below_all key_cmp y es) → T (lists.below_all key_cmp x es)
below_more x y [] low h = tt
below_more x y (e ∷ es) low h =
    both_T (is_lt (key_cmp x e.0)) (lists.below_all key_cmp x es)
    (less_T (key_cmp x e.0) (key_total.trans x y e.0 low (less_of (key_cmp y e.0) (first_T (is_lt (key_cmp y e.0)) (lists.below_all key_cmp y es) h))))
    (below_more x y es low (second_T (is_lt (key_cmp y e.0)) (lists.below_all key_cmp y es) h))

sorted_back : (cs : List Cell) (all : AllByRecursion IsCell cs) → KeysRise cs → T (globals.is_sorted key_cmp (nodes_of cs all))
sorted_back [] all rise = tt
sorted_back (c ∷ []) all rise = tt
sorted_back (c ∷ d ∷ cs) all rise =
    let x : Key = all.0.0.0 in
    let y : Key = all.1.0.0.0 in
    let es : Nodes = nodes_of cs all.1.1 in
    let rest = sorted_back (d ∷ cs) all.1 rise.1 in
    let low : key_cmp x y ≡ Less = sym (key_ordered x y all.0.0.1 all.1.0.0.1) ∙ ap (λ (k : List ℕ). slice_cmp nat_cmp k (encoded y)) (sym all.0.0.2) ∙ ap (slice_cmp nat_cmp c.0) (sym all.1.0.0.2) ∙ rise.0 in
    let behind : T (lists.below_all key_cmp y es) = first_T (lists.below_all key_cmp y es) (globals.is_sorted key_cmp es) rest in
    both_T (lists.below_all key_cmp x ((y, d.1) ∷ es)) (globals.is_sorted key_cmp ((y, d.1) ∷ es))
    (both_T (is_lt (key_cmp x y)) (lists.below_all key_cmp x es) (less_T (key_cmp x y) low) (below_more x y es low behind)) rest

cells_formed : (blocks : ℕ → Option (List ℕ)) (b : ℕ) (ls : List Leaf) → IsChain blocks b ls → AllByRecursion IsCell (flat_map (λ (l : Leaf). l.cells) ls)
cells_formed blocks b [] h = absurd h
cells_formed blocks b (l ∷ []) h = all_both IsCell l.cells [] h.0.2.form.cells tt
cells_formed blocks b (l ∷ m ∷ ls) h = all_both IsCell l.cells (flat_map (λ (x : Leaf). x.cells) (m ∷ ls)) h.0.2.form.cells (cells_formed blocks l.next (m ∷ ls) h.2)

-- cells of their form with rising keys are those of some map
pub cells_some : (cells : List Cell) → AllByRecursion IsCell cells → KeysRise cells → (g : Globals) × HaveKeys g × HaveShortValues g × (cells ≡ cells_of g)
cells_some cells all rise = (g, subst (AllByRecursion (λ e. IsTrue (is_key e.0))) (sym is) (keys_back cells all), subst (AllByRecursion (λ e. length e.1 ≤ LONGEST_VALUE)) (sym is) (values_back cells all), same)
  where
    g : Globals
    g = globals.from_sorted (nodes_of cells all)

    is : globals.entries g ≡ nodes_of cells all
    is = globals.entries-from_sorted key_cmp (nodes_of cells all) (sorted_back cells all rise)

    same : cells ≡ cells_of g
    same = sym (cells_back cells all) ∙ ap (map (λ e. (encoded e.0, e.1))) (sym is)

pub some : (blocks : ℕ → Option (List ℕ)) (ls : List Leaf) → IsChain blocks 0 ls → HaveCells ls → KeysRise (flat_map (λ l. l.cells) ls)
    → (g : Globals) × HaveKeys g × HaveShortValues g × (flat_map (λ l. l.cells) ls ≡ cells_of g) × Decodes blocks g
some blocks ls chain full rise =
    let held = cells_some (flat_map (λ (l : Leaf). l.cells) ls) (cells_formed blocks 0 ls chain) rise in
    (held.0, held.1, held.2, held.3, (ls, chain, full, held.3))
