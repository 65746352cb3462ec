-- What the blocks of a chain decode to, and what those of a broken one don't.
use Rattle.std.proofs.Common.{◌≡◌, ◌≢◌, ◌⊎◌, inl, inr, ℕ, ◌<◌, ◌≤◌, ◌==◌, true, List, [], ◌∷◌, ◌++◌, length, drop, map, Option, Some, None, unwrap_or, refl, sym, ap, subst, ◌∙◌, arith, append_assoc}
use Rattle.std.proofs.lemmas.Bool.Decides.{nat_tests}
use Rattle.std.proofs.lemmas.Option.{slice_get-get_or, slice_get_within}
use Rattle.std.proofs.lemmas.List.{map-append}
use Rattle.std.specs.Option.{option_map}
use Rattle.std.specs.List.{AllByRecursion, slice_get, flat_map}
use Rattle.global_defs.specs.Entry.{Globals}
use Rattle.journal_defs.specs.Leaves.{Leaf, Cell, IsLeaf, StandsAt, IsChain, HaveCells, Decodes, cells_of, spelled_leaf}
use Rattle.journal_laws.proofs.BlockReading as reading
use Rattle.block_laws.specs.Nodes.{HaveKeys}
use Rattle.block_laws.specs.Laid.{IsLinked}
use Rattle.block_laws.proofs.Chains.{laid, cells_rise}
use Rattle.block_fmt.specs.Cells.{blank}
use Rattle.block_pool.specs.Code.{Pool}
use Rattle.block_pool.specs.Pool.{leaf_at}
use Rattle.gvt_leaf.specs.Links.{first_or, Lead, times, one_if}
use Rattle.gvt_leaf.specs.Chained.{all_cells}
use Rattle.gvt_leaf.specs.Order.{Rise, AreRising}
use Rattle.gvt_leaf.specs.Stored.{blocks_in}
use Rattle.gvt_leaf.specs.Walked.{leaves_of, BreaksAt}
use Rattle.gvt_leaf.proofs.Links.{times_itself}
use Rattle.gvt_leaf.proofs.Bytes.{rise_first}
use Rattle.gvt_leaf.proofs.Walks.{all_rise}

-- ---- a chain

-- the numbers behind the first one aren't that
not_again : (n : ℕ) (xs : List ℕ) → times n xs ≡ 0 → AllByRecursion (λ c. c ≢ n) xs
not_again n [] h = tt
not_again n (x ∷ xs) h =
    ((λ e. let is : one_if (x == n) ≡ 1 = ap one_if (let yes : (x == n) ≡ true = grind (arith, nat_tests, e) in yes) in omega (arith, is, h)), not_again n xs (omega (arith, h)))

linked_so : (leaf : ℕ → Leaf) (b : ℕ) (cs : List ℕ) → Lead leaf (b ∷ cs) 0 → AllByRecursion (λ c. c ≢ 0) cs → IsLinked leaf b cs
linked_so leaf b [] h others = h.0
linked_so leaf b (c ∷ cs) h others = (h.0, others.0, linked_so leaf c cs h.1 others.1)

below_all : (p : Pool) (ns : List ℕ) → ((b : ℕ) → 1 ≤ times b ns → b < length p.leaves) → AllByRecursion (λ c. c < length p.leaves) ns
below_all p [] h = tt
below_all p (n ∷ ns) h = (h n (omega (arith, times_itself n)), below_all p ns (λ b some. h b (omega (arith, some))))

stand_all : (p : Pool) (ns : List ℕ) → AllByRecursion (λ c. c < length p.leaves) ns → AllByRecursion (λ c. IsLeaf (leaf_at p c)) ns → AllByRecursion (λ c. StandsAt (blocks_in p.leaves) c (leaf_at p c)) ns
stand_all p [] low forms = tt
stand_all p (n ∷ ns) low forms =
    ((spelled_leaf (leaf_at p n), ap (option_map spelled_leaf) (slice_get-get_or p.leaves n blank low.0), record { form = forms.0; spelled = refl }), stand_all p ns low.1 forms.1)

filled_so : (p : Pool) (cs : List ℕ) → AllByRecursion (λ l. l ≢ []) (leaves_of p cs) → AllByRecursion (λ c. (leaf_at p c).cells ≢ []) cs
filled_so p [] h = tt
filled_so p (c ∷ cs) h = (h.0, filled_so p cs h.1)

cells_so : (p : Pool) (cs : List ℕ) → flat_map (λ c. (leaf_at p c).cells) cs ≡ all_cells (leaves_of p cs)
cells_so p [] = refl
cells_so p (c ∷ cs) = ap (λ (l : List Cell). (leaf_at p c).cells ++ l) (cells_so p cs)

-- the blocks of a chain decode to the globals whose cells they have
pub chain_decodes : (p : Pool) (order : List ℕ) (g : Globals) → first_or 1 order ≡ 0 → Lead (leaf_at p) order 0 → times 0 order ≤ 1 → ((b : ℕ) → 1 ≤ times b order → b < length p.leaves)
    → AllByRecursion (λ c. IsLeaf (leaf_at p c)) order → AllByRecursion (λ l. l ≢ []) (drop 1 (leaves_of p order)) → all_cells (leaves_of p order) ≡ cells_of g → Decodes (blocks_in p.leaves) g
chain_decodes p [] g first linked once low forms filled is = absurd (omega (arith, first))
chain_decodes p (z ∷ cs) g first linked once low forms filled is =
    let rest : times 0 cs ≡ 0 = let here : one_if (z == 0) ≡ 1 = ap one_if (let yes : (z == 0) ≡ true = grind (arith, nat_tests, first) in yes) in omega (arith, here, once) in
    let order : AllByRecursion (λ c. StandsAt (blocks_in p.leaves) c (leaf_at p c)) (0 ∷ cs) =
    subst (λ n. AllByRecursion (λ c. StandsAt (blocks_in p.leaves) c (leaf_at p c)) (n ∷ cs)) first (stand_all p (z ∷ cs) (below_all p (z ∷ cs) low) forms) in
    laid (blocks_in p.leaves) (leaf_at p) cs g (linked_so (leaf_at p) 0 cs (subst (λ n. Lead (leaf_at p) (n ∷ cs) 0) first linked) (not_again 0 cs rest)) order (filled_so p cs filled)
    (cells_so p (0 ∷ cs) ∙ ap (λ n. all_cells (leaves_of p (n ∷ cs))) (sym first) ∙ is)

-- ---- a broken one

-- what a chain is from a leaf on that others lead to
record GoesOn (p : Pool) (before : List ℕ) (b : ℕ) (ls : List Leaf) : Type 0 where
  pub rest : List Leaf
  pub are : ls ≡ map (leaf_at p) before ++ rest
  pub chain : IsChain (blocks_in p.leaves) b rest

stands_below : (p : Pool) (b : ℕ) (l : Leaf) → StandsAt (blocks_in p.leaves) b l → b < length p.leaves
stands_below p b l s = slice_get_within p.leaves b found.0 found.1
  where
    some_leaf : (o : Option Leaf) → option_map spelled_leaf o ≡ Some s.0 → (x : Leaf) × (o ≡ Some x)
    some_leaf None e = absurd (cc e)
    some_leaf (Some x) e = (x, refl)

    found : (x : Leaf) × (slice_get p.leaves b ≡ Some x)
    found = some_leaf (slice_get p.leaves b) s.1

there_is : (p : Pool) (b : ℕ) (l : Leaf) → StandsAt (blocks_in p.leaves) b l → IsLeaf (leaf_at p b) → l ≡ leaf_at p b
there_is p b l s form =
    let low : b < length p.leaves = stands_below p b l s in
    reading.block s.0 l (leaf_at p b) s.2 (record {
      form = form;
      spelled = ap (λ (o : Option (List ℕ)). unwrap_or o []) (sym s.1) ∙ ap (λ (o : Option Leaf). unwrap_or (option_map spelled_leaf o) []) (slice_get-get_or p.leaves b blank low);
    })

goes_along : (p : Pool) (before : List ℕ) (b : ℕ) (ls : List Leaf) → Lead (leaf_at p) before b → AllByRecursion (λ c. c ≢ 0) (drop 1 (before ++ b ∷ [])) → AllByRecursion (λ c. IsLeaf (leaf_at p c)) before
    → IsChain (blocks_in p.leaves) (first_or b before) ls → GoesOn p before b ls
goes_along p [] b ls led others forms chain = record { rest = ls; are = refl; chain = chain }
goes_along p (x ∷ xs) b [] led others forms chain = absurd chain
goes_along p (x ∷ xs) b (l ∷ []) led others forms chain =
    let is = there_is p x l chain.0 forms.0 in
    absurd (ends xs (sym (ap (λ (m : Leaf). m.next) is) ∙ chain.1) led.0 others)
  where
    ends : (xs : List ℕ) → (leaf_at p x).next ≡ 0 → (leaf_at p x).next ≡ first_or b xs → AllByRecursion (λ c. c ≢ 0) (xs ++ b ∷ []) → ⊥
    ends [] e f others = others.0 (sym f ∙ e)
    ends (y ∷ ys) e f others = others.0 (sym f ∙ e)
goes_along p (x ∷ xs) b (l ∷ m ∷ ls) led others forms chain =
    let is = there_is p x l chain.0 forms.0 in
    let next : l.next ≡ first_or b xs = ap (λ (n : Leaf). n.next) is ∙ led.0 in
    let more = goes_along p xs b (m ∷ ls) led.1 (tail_others xs others) forms.1 (subst (λ n. IsChain (blocks_in p.leaves) n (m ∷ ls)) next chain.2) in
    record { rest = more.rest; are = λ i. is i ∷ more.are i; chain = more.chain }
  where
    tail_others : (xs : List ℕ) → AllByRecursion (λ c. c ≢ 0) (xs ++ b ∷ []) → AllByRecursion (λ c. c ≢ 0) (drop 1 (xs ++ b ∷ []))
    tail_others [] h = tt
    tail_others (y ∷ ys) h = h.1

flat_cells : (p : Pool) (xs : List ℕ) → flat_map (λ (l : Leaf). l.cells) (map (leaf_at p) xs) ≡ all_cells (leaves_of p xs)
flat_cells p [] = refl
flat_cells p (x ∷ xs) = ap (λ (l : List Cell). (leaf_at p x).cells ++ l) (flat_cells p xs)

flat-append : (ls ms : List Leaf) → flat_map (λ (l : Leaf). l.cells) (ls ++ ms) ≡ flat_map (λ (l : Leaf). l.cells) ls ++ flat_map (λ (l : Leaf). l.cells) ms
flat-append [] ms = refl
flat-append (l ∷ ls) ms = ap (λ (x : List Cell). l.cells ++ x) (flat-append ls ms) ∙ sym (append_assoc l.cells (flat_map (λ (l : Leaf). l.cells) ls) (flat_map (λ (l : Leaf). l.cells) ms))

all_filled : (p : Pool) (xs : List ℕ) (ms : List Leaf) → AllByRecursion (λ (m : Leaf). m.cells ≢ []) (map (leaf_at p) xs ++ ms) → AllByRecursion (λ l. l ≢ []) (leaves_of p xs)
all_filled p [] ms h = tt
all_filled p (x ∷ xs) ms h = (h.0, all_filled p xs ms h.1)

some_filled : (p : Pool) (xs : List ℕ) (ms : List Leaf) → HaveCells (map (leaf_at p) xs ++ ms) → AllByRecursion (λ l. l ≢ []) (drop 1 (leaves_of p xs))
some_filled p [] ms h = tt
some_filled p (x ∷ xs) ms h = all_filled p xs ms h

pub nothing_decodes : (p : Pool) (b : ℕ) (g : Globals) → BreaksAt p b → HaveKeys g → Decodes (blocks_in p.leaves) g → ⊥
nothing_decodes p b g k keys d = by g_on.rest g_on.are g_on.chain
  where
    g_on : GoesOn p k.before b d.0
    g_on = goes_along p k.before b d.0 k.led k.others k.forms (subst (λ n. IsChain (blocks_in p.leaves) n d.0) (sym k.first) d.1)

    here : (l : Leaf) (ms : List Leaf) → d.0 ≡ map (leaf_at p) k.before ++ (l ∷ ms) → StandsAt (blocks_in p.leaves) b l → (length p.leaves ≤ b) ⊎ (IsLeaf (leaf_at p b) × (AreRising (leaves_of p (k.before ++ b ∷ [])) → ⊥)) → ⊥
    here l ms are s (inl high) = omega (arith, high, stands_below p b l s)
    here l ms are s (inr falls) =
        let is = there_is p b l s falls.0 in
        let all : d.0 ≡ map (leaf_at p) (k.before ++ b ∷ []) ++ ms =
        are ∙ ap (λ (x : Leaf). map (leaf_at p) k.before ++ (x ∷ ms)) is ∙ sym (append_assoc (map (leaf_at p) k.before) (leaf_at p b ∷ []) ms) ∙ ap (λ (l : List Leaf). l ++ ms) (sym (map-append (leaf_at p) k.before (b ∷ []))) in
        let cells : all_cells (leaves_of p (k.before ++ b ∷ [])) ++ flat_map (λ (l : Leaf). l.cells) ms ≡ cells_of g =
        ap (λ (x : List Cell). x ++ flat_map (λ (l : Leaf). l.cells) ms) (sym (flat_cells p (k.before ++ b ∷ []))) ∙ sym (flat-append (map (leaf_at p) (k.before ++ b ∷ [])) ms) ∙ ap (flat_map (λ (l : Leaf). l.cells)) (sym all) ∙ d.3 in
        falls.1 (record {
          rise = rise_first (all_cells (leaves_of p (k.before ++ b ∷ []))) (flat_map (λ (l : Leaf). l.cells) ms) (subst Rise (sym cells) (all_rise (cells_of g) (cells_rise g keys)));
          filled = some_filled p (k.before ++ b ∷ []) ms (subst HaveCells all d.2);
        })

    by : (rest : List Leaf) → d.0 ≡ map (leaf_at p) k.before ++ rest → IsChain (blocks_in p.leaves) b rest → ⊥
    by [] are chain = chain
    by (l ∷ []) are chain = here l [] are chain.0 k.broken
    by (l ∷ m ∷ ms) are chain = here l (m ∷ ms) are chain.0 k.broken
