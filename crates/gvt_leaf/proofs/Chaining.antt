-- A chain with one of its leaves changed.
use Rattle.std.proofs.Common.{◌≡◌, ◌≢◌, ℕ, zero, suc, ◌+◌, ◌<◌, ◌≤◌, ◌==◌, true, List, [], ◌∷◌, ◌++◌, length, take, drop, get_or, map, sym, ap, subst, ◌∙◌, arith, add-one}
use Rattle.std.proofs.lemmas.Bool.Decides.{nat_tests}
use Rattle.std.proofs.lemmas.List.{map-append, take-map, drop-map, take-append-drop, drop_more, get_or-set_same, get_or-set_other}
use Rattle.std.specs.List.{AllByRecursion}
use Rattle.journal_defs.specs.Leaves.{Leaf, Cell, IsLeaf}
use Rattle.block_fmt.specs.Cells.{blank}
use Rattle.block_pool.specs.Code.{Pool}
use Rattle.block_pool.specs.Pool.{leaf_at, changed}
use Rattle.gvt_leaf.specs.Links.{first_or, Lead, one_if, times, inside}
use Rattle.gvt_leaf.specs.Chained.{replaced}
use Rattle.gvt_leaf.proofs.Links.{times-append, Agree, agree_outside, cells-agree, forms-agree, Lead-replaced, all-append}
use Rattle.journal_laws.proofs.ImageSteps.{all_both as all_joined}

-- the numbers round one place
pub cut_at : (ns : List ℕ) (i : ℕ) → i < length ns → ns ≡ take i ns ++ ((get_or ns i 0 ∷ []) ++ drop (i + 1) ns)
cut_at ns i inside = sym (take-append-drop i ns) ∙ ap (λ (l : List ℕ). take i ns ++ l) (drop_more ns i 0 inside)

pub once_there : (ns : List ℕ) (i : ℕ) → i < length ns
    → times (get_or ns i 0) ns ≡ times (get_or ns i 0) (take i ns) + suc (times (get_or ns i 0) (drop (i + 1) ns))
once_there ns i inside =
    let n : ℕ = get_or ns i 0 in
    let here : one_if (n == n) ≡ 1 = ap one_if (let is : (n == n) ≡ true = grind (arith, nat_tests) in is) in
    let all : times n ns ≡ times n (take i ns ++ ((n ∷ []) ++ drop (i + 1) ns)) = ap (times n) (cut_at ns i inside) in
    omega (arith, all, here, times-append n (take i ns) ((n ∷ []) ++ drop (i + 1) ns))

-- the leaves round one place are as they were
pub record Around (old new : ℕ → Leaf) (ns : List ℕ) (i : ℕ) : Type 0 where
  pub before : Agree old new (take i ns)
  pub behind : Agree old new (drop (i + 1) ns)

pub around : (old new : ℕ → Leaf) (ns : List ℕ) (i m : ℕ) → i < length ns → times (get_or ns i 0) ns ≤ 1 → times m ns ≡ 0
    → ((b : ℕ) → b ≢ get_or ns i 0 → b ≢ m → new b ≡ old b) → Around old new ns i
around old new ns i m inside once none same =
    let n : ℕ = get_or ns i 0 in
    let count = once_there ns i inside in
    let parts : times m ns ≡ times m (take i ns) + times m ((n ∷ []) ++ drop (i + 1) ns) = ap (times m) (cut_at ns i inside) ∙ times-append m (take i ns) ((n ∷ []) ++ drop (i + 1) ns) in
    record {
      before = agree_outside old new n m (take i ns) same (omega (arith, count)) (omega (arith, parts));
      behind = agree_outside old new n m (drop (i + 1) ns) same (omega (arith, count)) (omega (arith, parts));
    }

pub cells_replaced : (old new : ℕ → Leaf) (ns : List ℕ) (i : ℕ) (news : List ℕ) → Around old new ns i
    → map (λ b. (new b).cells) (take i ns ++ (news ++ drop (i + 1) ns)) ≡ replaced (map (λ b. (old b).cells) ns) i (map (λ b. (new b).cells) news)
cells_replaced old new ns i news a =
    let f : ℕ → List Cell = λ b. (new b).cells in
    let g : ℕ → List Cell = λ b. (old b).cells in
    let before : map f (take i ns) ≡ take i (map g ns) = cells-agree old new (take i ns) a.before ∙ sym (take-map g i ns) in
    let behind : map f (drop (i + 1) ns) ≡ drop (i + 1) (map g ns) = cells-agree old new (drop (i + 1) ns) a.behind ∙ sym (drop-map g (i + 1) ns) in
    map-append f (take i ns) (news ++ drop (i + 1) ns)
    ∙ (λ j. before j ++ map-append f news (drop (i + 1) ns) j)
    ∙ ap (λ (l : List (List Cell)). take i (map g ns) ++ (map f news ++ l)) behind

pub forms_replaced : (old new : ℕ → Leaf) (ns : List ℕ) (i : ℕ) (news : List ℕ) → i < length ns → Around old new ns i
    → AllByRecursion (λ b. IsLeaf (old b)) ns → AllByRecursion (λ b. IsLeaf (new b)) news → AllByRecursion (λ b. IsLeaf (new b)) (take i ns ++ (news ++ drop (i + 1) ns))
forms_replaced old new ns i news inside a all here =
    let n : ℕ = get_or ns i 0 in
    let whole : AllByRecursion (λ b. IsLeaf (old b)) (take i ns ++ ((n ∷ []) ++ drop (i + 1) ns)) = subst (λ (l : List ℕ). AllByRecursion (λ b. IsLeaf (old b)) l) (cut_at ns i inside) all in
    let outer = all-append (λ b. IsLeaf (old b)) (take i ns) ((n ∷ []) ++ drop (i + 1) ns) whole in
    all_joined (λ b. IsLeaf (new b)) (take i ns) (news ++ drop (i + 1) ns) (forms-agree old new (take i ns) a.before outer.0)
    (all_joined (λ b. IsLeaf (new b)) news (drop (i + 1) ns) here (forms-agree old new (drop (i + 1) ns) a.behind outer.1.1))

pub links_replaced : (old new : ℕ → Leaf) (ns : List ℕ) (i : ℕ) (news : List ℕ) → i < length ns → Around old new ns i → Lead old ns 0
    → Lead new (get_or ns i 0 ∷ news) (first_or 0 (drop (i + 1) ns)) → Lead new (take i ns ++ ((get_or ns i 0 ∷ news) ++ drop (i + 1) ns)) 0
links_replaced old new ns i news inside a h here =
    let n : ℕ = get_or ns i 0 in
    let whole : Lead old (take i ns ++ ((n ∷ []) ++ drop (i + 1) ns)) 0 = subst (λ (l : List ℕ). Lead old l 0) (cut_at ns i inside) h in
    Lead-replaced old new (take i ns) n [] news (drop (i + 1) ns) 0 a.before a.behind here whole

next_suc : (leaf : ℕ → Leaf) (ns : List ℕ) (i : ℕ) → i < length ns → Lead leaf ns 0 → (leaf (get_or ns i 0)).next ≡ first_or 0 (drop (suc i) ns)
next_suc leaf [] i low h = absurd (omega arith)
next_suc leaf (n ∷ ns) zero low h = h.0
next_suc leaf (n ∷ ns) (suc i) low h = next_suc leaf ns i (omega arith) h.1

-- the next block of a leaf of a chain is that of the leaf behind it
pub next_there : (leaf : ℕ → Leaf) (ns : List ℕ) (i : ℕ) → i < length ns → Lead leaf ns 0 → (leaf (get_or ns i 0)).next ≡ first_or 0 (drop (i + 1) ns)
next_there leaf ns i low h = rw add-one (next_suc leaf ns i low h)

-- a number that stands in a list of numbers that are each below a count, and once
pub below_count : (ns fs : List ℕ) (count i : ℕ) → ((b : ℕ) → times b ns + times b fs ≡ inside b count) → i < length ns → get_or ns i 0 < count
below_count ns fs count i apart low = grind (arith, nat_tests, once_there ns i low, apart (get_or ns i 0))

pub once_only : (ns fs : List ℕ) (count i : ℕ) → ((b : ℕ) → times b ns + times b fs ≡ inside b count) → i < length ns → times (get_or ns i 0) ns ≤ 1
once_only ns fs count i apart low = grind (arith, nat_tests, apart (get_or ns i 0))

-- changes of a pool

pub leaf-changed_same : (p : Pool) (n : ℕ) (l : Leaf) → n < length p.leaves → leaf_at (changed p n l) n ≡ l
leaf-changed_same p n l inside = get_or-set_same p.leaves n l blank inside

pub leaf-changed_other : (p : Pool) (n : ℕ) (l : Leaf) (b : ℕ) → b ≢ n → leaf_at (changed p n l) b ≡ leaf_at p b
leaf-changed_other p n l b other = get_or-set_other p.leaves n b l blank other
