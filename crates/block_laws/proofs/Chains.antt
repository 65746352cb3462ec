-- Chains of leaves, and what they decode to.
use Rattle.std.proofs.Common.{◌≡◌, ◌≢◌, inl, inr, ℕ, suc, ◌-◌, ◌<◌, ◌≤◌, Bool, true, false, ◌==◌, ◌||◌, ◌&&◌, nat_lt, nat_eq, List, [], ◌∷◌, ◌++◌, length, map, replicate, flat_map, Option, Some, None, IsSome, is_some, IsTrue, T, refl, sym, ◌∙◌, ap, subst, arith, unwrap_or, if◌then◌else◌}
use Rattle.std.proofs.lemmas.Bool.{cases_Bool, cases_lt, cases_eq, or_cases, eqb-true}
use Rattle.std.proofs.lemmas.Bool.Decides.{nat_tests}
use Rattle.std.proofs.lemmas.Map.Keys.{IsDistinct-cons}
use Rattle.std.proofs.lemmas.Map.Steps.{length-le_from_distinct_below}
use Rattle.std.specs.List.{AllByRecursion, IsDistinct, list_any}
use Rattle.std.specs.declared.cmp.Ordering.{Ordering}
use Rattle.std.specs.declared.cmp.Ordering.TheVariants.{Less, Equal, Greater}
use Rattle.std.specs.Ordering.{is_lt}
use Rattle.std.specs.FinMap as globals
use Rattle.std.specs.FinMap.Entries as lists
use Rattle.global_defs.specs.declared.limits.TheConstants.{LONGEST_VALUE}
use Rattle.global_defs.specs.Key.{Key, key_cmp}
use Rattle.global_defs.specs.Valid.{is_key}
use Rattle.global_defs.specs.Encoded.{encoded}
use Rattle.global_defs.specs.Entry.{Globals}
use Rattle.global_defs.proofs.KeyOrder.{key_ordered, key_injective}
use Rattle.journal_defs.specs.Journal.{Mark}
use Rattle.journal_defs.specs.Epochs.{Blocks, Chosen, image_of, image_state}
use Rattle.journal_defs.specs.Undo.{fresh}
use Rattle.journal_defs.specs.Sound.{AreWhole, Restores}
use Rattle.std.specs.Int.{to_be_bytes, w16, w32}
use Rattle.std.proofs.lemmas.List.{length-append, length-replicate}
use Rattle.journal_defs.specs.Leaves.{Cell, Leaf, cell_bytes, IsCell, IsBlock, StandsAt, IsChain, KeysRise, Decodes, cells_of}
use Rattle.journal_laws.proofs.BlockReading as reading
use Rattle.block_laws.specs.Nodes.{HaveKeys, HaveShortValues}
use Rattle.block_laws.specs.Laid.{IsLinked}

some_one : {X : Type 0} (x y d : X) → Some x ≡ Some y → x ≡ y
some_one x y d e = ap (λ o. unwrap_or o d) e

stands_one : (blocks : ℕ → Option (List ℕ)) (b : ℕ) (l m : Leaf) → StandsAt blocks b l → StandsAt blocks b m → l ≡ m
stands_one blocks b l m h k = reading.block h.0 l m h.2 (subst (λ (x : List ℕ). IsBlock x m) (some_one k.0 h.0 [] (sym k.1 ∙ h.1)) k.2)

pub chain_one : (blocks : ℕ → Option (List ℕ)) (b : ℕ) (ls ms : List Leaf) → IsChain blocks b ls → IsChain blocks b ms → ls ≡ ms
chain_one blocks b [] ms h k = absurd h
chain_one blocks b (l ∷ []) [] h k = absurd k
chain_one blocks b (l ∷ x ∷ ls) [] h k = absurd k
chain_one blocks b (l ∷ []) (m ∷ []) h k = let same : l ≡ m = stands_one blocks b l m h.0 k.0 in ap (λ (a : Leaf). a ∷ []) same
chain_one blocks b (l ∷ []) (m ∷ y ∷ ms) h k = let same : l ≡ m = stands_one blocks b l m h.0 k.0 in absurd (k.1 (ap (λ (a : Leaf). a.next) (sym same) ∙ h.1))
chain_one blocks b (l ∷ x ∷ ls) (m ∷ []) h k = let same : l ≡ m = stands_one blocks b l m h.0 k.0 in absurd (h.1 (ap (λ (a : Leaf). a.next) same ∙ k.1))
chain_one blocks b (l ∷ x ∷ ls) (m ∷ y ∷ ms) h k =
    let same : l ≡ m = stands_one blocks b l m h.0 k.0 in
    let rest : x ∷ ls ≡ y ∷ ms = chain_one blocks l.next (x ∷ ls) (y ∷ ms) h.2 (subst (λ (a : Leaf). IsChain blocks a.next (y ∷ ms)) (sym same) k.2) in
    λ i. same i ∷ rest i

-- the blocks of a chain
visited : ℕ → List Leaf → List ℕ
visited b [] = []
visited b (l ∷ ls) = b ∷ visited l.next ls

length-visited : (b : ℕ) (ls : List Leaf) → length (visited b ls) ≡ length ls
unfolding visited
length-visited b [] = refl
length-visited b (l ∷ ls) = ap suc (length-visited l.next ls)

-- from that block a chain of at most n leaves begins
abbrev Reaches : (ℕ → Option (List ℕ)) → ℕ → ℕ → Type 0
Reaches blocks q n = (ms : List Leaf) × IsChain blocks q ms × (length ms ≤ n)

reached : (blocks : ℕ → Option (List ℕ)) (q b : ℕ) (ls : List Leaf) → IsChain blocks b ls → list_any (nat_eq q) (visited b ls) ≡ true → Reaches blocks q (length ls)
unfolding visited
reached blocks q b [] h is = absurd h
reached blocks q b (l ∷ []) h is = elim (or_cases (nat_eq q b) false is) [
  | inl e ↦ (l ∷ [], subst (λ (k : ℕ). IsChain blocks k (l ∷ [])) (sym (eqb-true q b e)) h, omega arith)
  | inr e ↦ cc
]
reached blocks q b (l ∷ m ∷ ls) h is = elim (or_cases (nat_eq q b) (list_any (nat_eq q) (visited l.next (m ∷ ls))) is) [
  | inl e ↦ (l ∷ m ∷ ls, subst (λ (k : ℕ). IsChain blocks k (l ∷ m ∷ ls)) (sym (eqb-true q b e)) h, omega arith)
  | inr e ↦ (let there = reached blocks q l.next (m ∷ ls) h.2 e in (there.0, there.1, let few = there.2 in omega (arith, few)))
]

-- no element passes where none is found
none_alike : (q : ℕ) (xs : List ℕ) → (list_any (nat_eq q) xs ≡ true → ⊥) → AllByRecursion (λ y. nat_eq q y ≡ false) xs
none_alike q [] none = tt
none_alike q (x ∷ xs) none = elim (cases_Bool (nat_eq q x)) [
  | inl h ↦ absurd (none (ap (λ (b : Bool). b || list_any (nat_eq q) xs) h))
  | inr h ↦ (h, none_alike q xs (λ e. none (ap (λ (b : Bool). b || list_any (nat_eq q) xs) h ∙ e)))
]

no_two : IsDistinct nat_eq []
unfolding IsDistinct
no_two = tt

apart : (blocks : ℕ → Option (List ℕ)) (b : ℕ) (ls : List Leaf) → IsChain blocks b ls → IsDistinct nat_eq (visited b ls)
unfolding visited
apart blocks b [] h = absurd h
apart blocks b (l ∷ []) h = IsDistinct-cons nat_eq b [] tt no_two
apart blocks b (l ∷ m ∷ ls) h = IsDistinct-cons nat_eq b (visited l.next (m ∷ ls)) (none_alike b (visited l.next (m ∷ ls)) (λ is.
    let there = reached blocks b l.next (m ∷ ls) h.2 is in
    let same : length there.0 ≡ length (l ∷ m ∷ ls) = ap length (chain_one blocks b there.0 (l ∷ m ∷ ls) there.1 h) in
    let few = there.2 in
    omega (arith, same, few))) (apart blocks l.next (m ∷ ls) h.2)

stands_there : (blocks : ℕ → Option (List ℕ)) (b : ℕ) (ls : List Leaf) → IsChain blocks b ls → IsSome (blocks b)
stands_there blocks b [] h = absurd h
stands_there blocks b (l ∷ []) h = ap is_some h.0.1
stands_there blocks b (l ∷ m ∷ ls) h = ap is_some h.0.1

pub chain_ends : (blocks : ℕ → Option (List ℕ)) (n b : ℕ) (ls : List Leaf) → ((c : ℕ) → IsSome (blocks c) → c < n) → IsChain blocks b ls → length ls ≤ n
chain_ends blocks n b ls below h =
    let size = length-visited b ls in
    let few : length (visited b ls) ≤ n = length-le_from_distinct_below (visited b ls) n (apart blocks b ls h) (λ q is.
    let there = reached blocks q b ls h is in below q (stands_there blocks q there.0 there.1)) in
    omega (arith, size, few)

image_there : (e : Chosen) (database : Blocks) (n c : ℕ) → 1 ≤ n → e.blocks ≤ n → IsSome (image_state e database c) → c < n
image_there e database n c some few is = elim (cases_lt c e.blocks) [
  | inl low ↦ omega (arith, low, few)
  | inr high ↦ elim (cases_eq c 0) [
    | inl first ↦ omega (arith, first, some)
    | inr other ↦
        let no : nat_lt c e.blocks ≡ false = grind (arith, nat_tests) in
        let not_first : (c == 0) ≡ false = grind (arith, nat_tests) in
        let none : image_state e database c ≡ None =
        ap (λ (b : Bool). if b then Some (unwrap_or (image_of e.after c) (database c)) else if c == 0 then Some (replicate 4096 0) else None) no
        ∙ ap (λ (b : Bool). if b then Some (replicate 4096 0) else None) not_first in
        let gone : is_some (image_state e database c) ≡ false = ap is_some none in
        cc
  ]
]

pub image_ends : (e : Chosen) (database : Blocks) (n b : ℕ) (ls : List Leaf) → 1 ≤ n → e.blocks ≤ n → IsChain (image_state e database) b ls → length ls ≤ n
image_ends e database n b ls some few h = chain_ends (image_state e database) n b ls (λ c is. image_there e database n c some few is) h

-- cells
abbrev Nodes : Type 0
Nodes = List (Key × List ℕ)

-- the cells of nodes
abbrev cells_in : Nodes → List Cell
cells_in es = map (λ e. (encoded e.0, e.1)) es

-- each node has a key that there is
abbrev AreKeys : Nodes → Type 0
AreKeys es = AllByRecursion (λ e. IsTrue (is_key e.0)) es

nodes_one : (es fs : Nodes) → AreKeys es → AreKeys fs → cells_in es ≡ cells_in fs → es ≡ fs
nodes_one [] [] p q h = refl
nodes_one [] (f ∷ fs) p q h = let size : 0 ≡ suc (length (cells_in fs)) = ap length h in absurd (omega (arith, size))
nodes_one (e ∷ es) [] p q h = let size : suc (length (cells_in es)) ≡ 0 = ap length h in absurd (omega (arith, size))
nodes_one (e ∷ es) (f ∷ fs) p q h =
    let first : (encoded e.0, e.1) ≡ (encoded f.0, f.1) = ap (head_or (encoded e.0, e.1)) h in
    let key : e.0 ≡ f.0 = key_injective e.0 f.0 p.0 q.0 (ap (λ (c : Cell). c.0) first) in
    let value : e.1 ≡ f.1 = ap (λ (c : Cell). c.1) first in
    let rest : es ≡ fs = nodes_one es fs p.1 q.1 (ap tail h) in
    λ i. (key i, value i) ∷ rest i
  where
    head_or : Cell → List Cell → Cell
    head_or d [] = d
    head_or d (c ∷ cs) = c

    tail : List Cell → List Cell
    tail [] = []
    tail (c ∷ cs) = cs

pub cells_one : (g h : Globals) → HaveKeys g → HaveKeys h → cells_of g ≡ cells_of h → g ≡ h
cells_one g h p q same = globals.same_entries_map g h (nodes_one (globals.entries g) (globals.entries h) p q same)

pub less_of : (o : Ordering) → T (is_lt o) → o ≡ Less
less_of Less h = refl
less_of Equal h = absurd h
less_of Greater h = absurd h

pub first_T : (a b : Bool) → T (a && b) → T a
first_T true b h = tt
first_T false b h = absurd h

pub second_T : (a b : Bool) → T (a && b) → T b
second_T true b h = h
second_T false b h = absurd h

nodes_rise : (es : Nodes) → AreKeys es → T (globals.is_sorted key_cmp es) → KeysRise (cells_in es)
nodes_rise [] p h = tt
nodes_rise (e ∷ []) p h = tt
nodes_rise (e ∷ f ∷ es) p h =
    let first : T (lists.below_all key_cmp e.0 (f ∷ es)) = first_T (lists.below_all key_cmp e.0 (f ∷ es)) (globals.is_sorted key_cmp (f ∷ es)) h in
    let low : key_cmp e.0 f.0 ≡ Less = less_of (key_cmp e.0 f.0) (first_T (is_lt (key_cmp e.0 f.0)) (lists.below_all key_cmp e.0 es) first) in
    (key_ordered e.0 f.0 p.0 p.1.0 ∙ low, nodes_rise (f ∷ es) p.1 (second_T (lists.below_all key_cmp e.0 (f ∷ es)) (globals.is_sorted key_cmp (f ∷ es)) h))

pub cells_rise : (g : Globals) → HaveKeys g → KeysRise (cells_of g)
cells_rise g p = nodes_rise (globals.entries g) p (globals.entries_sorted g)

forms_of : (es : Nodes) → AreKeys es → AllByRecursion (λ e. length e.1 ≤ LONGEST_VALUE) es → AllByRecursion IsCell (cells_in es)
forms_of [] p q = tt
forms_of (e ∷ es) p q = (((e.0, p.0, refl), q.0), forms_of es p.1 q.1)

pub cells_have_forms : (g : Globals) → HaveKeys g → HaveShortValues g → AllByRecursion IsCell (cells_of g)
cells_have_forms g p q = forms_of (globals.entries g) p q

pub one : (blocks : ℕ → Option (List ℕ)) (g h : Globals) → HaveKeys g → HaveKeys h → Decodes blocks g → Decodes blocks h → g ≡ h
one blocks g h p q a b =
    cells_one g h p q (sym a.3 ∙ ap (flat_map (λ (l : Leaf). l.cells)) (chain_one blocks 0 a.0 b.0 a.1 b.1) ∙ b.3)

-- leaves that were laid
laid_chain : (blocks : ℕ → Option (List ℕ)) (leaf : ℕ → Leaf) (b : ℕ) (cs : List ℕ) → IsLinked leaf b cs → AllByRecursion (λ c. StandsAt blocks c (leaf c)) (b ∷ cs) → IsChain blocks b (leaf b ∷ map leaf cs)
laid_chain blocks leaf b [] linked all = (all.0, linked)
laid_chain blocks leaf b (c ∷ cs) linked all = (
  all.0,
  (λ e. linked.1 (sym linked.0 ∙ e)),
  subst (λ (k : ℕ). IsChain blocks k (leaf c ∷ map leaf cs)) (sym linked.0) (laid_chain blocks leaf c cs linked.2 all.1),
)

laid_cells : (leaf : ℕ → Leaf) (cs : List ℕ) → flat_map (λ (l : Leaf). l.cells) (map leaf cs) ≡ flat_map (λ c. (leaf c).cells) cs
laid_cells leaf [] = refl
laid_cells leaf (c ∷ cs) = ap (λ (l : List Cell). (leaf c).cells ++ l) (laid_cells leaf cs)

laid_some : (leaf : ℕ → Leaf) (cs : List ℕ) → AllByRecursion (λ c. (leaf c).cells ≢ []) cs → AllByRecursion (λ (m : Leaf). m.cells ≢ []) (map leaf cs)
laid_some leaf [] all = tt
laid_some leaf (c ∷ cs) all = (all.0, laid_some leaf cs all.1)

pub laid : (blocks : ℕ → Option (List ℕ)) (leaf : ℕ → Leaf) (cs : List ℕ) (g : Globals) → IsLinked leaf 0 cs
    → AllByRecursion (λ c. StandsAt blocks c (leaf c)) (0 ∷ cs) → AllByRecursion (λ c. (leaf c).cells ≢ []) cs
    → flat_map (λ c. (leaf c).cells) (0 ∷ cs) ≡ cells_of g → Decodes blocks g
laid blocks leaf cs g linked all some is = (leaf 0 ∷ map leaf cs, laid_chain blocks leaf 0 cs linked all, laid_some leaf cs some, laid_cells leaf (0 ∷ cs) ∙ is)

on_file : (m : Mark) (database : Blocks) (leaf : ℕ → Leaf) (cs : List ℕ) → AllByRecursion (λ c. (c < m.blocks) × IsBlock (database c) (leaf c)) cs
    → AllByRecursion (λ c. StandsAt (image_state (fresh m) database) c (leaf c)) cs
on_file m database leaf [] all = tt
on_file m database leaf (c ∷ cs) all =
    let low : c < m.blocks = all.0.0 in
    let yes : nat_lt c m.blocks ≡ true = grind (arith, nat_tests, low) in
    ((database c, ap (λ (b : Bool). if b then Some (database c) else if c == 0 then Some (replicate 4096 0) else None) yes, all.0.1), on_file m database leaf cs all.1)

below_only : (m : Mark) (database : Blocks) → 1 ≤ m.blocks → ((b : ℕ) → b < m.blocks → length (database b) ≡ 4096) → AreWhole (image_state (fresh m) database)
below_only m database some long b bytes is = elim (cases_lt b m.blocks) [
  | inl low ↦
      let yes : nat_lt b m.blocks ≡ true = grind (arith, nat_tests, low) in
      let here : Some (database b) ≡ Some bytes = ap (λ (x : Bool). if x then Some (database b) else if b == 0 then Some (replicate 4096 0) else None) (sym yes) ∙ is in
      ap length (some_one bytes (database b) bytes (sym here)) ∙ long b low
  | inr high ↦
      let no : nat_lt b m.blocks ≡ false = grind (arith, nat_tests, high) in
      let other : (b == 0) ≡ false = grind (arith, nat_tests, high, some) in
      let gone : None ≡ Some bytes =
      ap (λ (x : Bool). if x then Some (replicate 4096 0) else None) (sym other)
      ∙ ap (λ (x : Bool). if x then Some (database b) else if b == 0 then Some (replicate 4096 0) else None) (sym no) ∙ is in
      cc
]

pub flushed : (m : Mark) (database : Blocks) (leaf : ℕ → Leaf) (cs : List ℕ) (g : Globals) → IsLinked leaf 0 cs → ((b : ℕ) → b < m.blocks → length (database b) ≡ 4096)
    → AllByRecursion (λ c. (c < m.blocks) × IsBlock (database c) (leaf c)) (0 ∷ cs) → AllByRecursion (λ c. (leaf c).cells ≢ []) cs
    → flat_map (λ c. (leaf c).cells) (0 ∷ cs) ≡ cells_of g → Restores (image_state (fresh m) database) g
flushed m database leaf cs g linked long all some is = (
  below_only m database (let first = all.0.0 in omega (arith, first)) long,
  laid (image_state (fresh m) database) leaf cs g linked (on_file m database leaf (0 ∷ cs) all) some is,
)

pub has_bytes : (e : Chosen) (database : Blocks) (b : ℕ) → AreWhole (image_state e database) → b < e.blocks → image_of e.after b ≡ None → length (database b) ≡ 4096
has_bytes e database b whole low none =
    let yes : nat_lt b e.blocks ≡ true = grind (arith, nat_tests, low) in
    whole b (database b) (ap (λ (x : Bool). if x then Some (unwrap_or (image_of e.after b) (database b)) else if b == 0 then Some (replicate 4096 0) else None) yes
    ∙ ap (λ (o : Option (List ℕ)). Some (unwrap_or o (database b))) none)

pub block_is_whole : (bytes : List ℕ) (l : Leaf) → IsBlock bytes l → length bytes ≡ 4096
block_is_whole bytes l h =
    let body : List ℕ = cell_bytes l in
    let zeros : List ℕ = replicate (4088 - length body) 0 in
    let all : length bytes ≡ length (to_be_bytes w16 (length l.cells) ++ (to_be_bytes w16 (length body) ++ (to_be_bytes w32 l.next ++ (body ++ zeros)))) = ap length h.spelled in
    let one = length-append (to_be_bytes w16 (length l.cells)) (to_be_bytes w16 (length body) ++ (to_be_bytes w32 l.next ++ (body ++ zeros))) in
    let two = length-append (to_be_bytes w16 (length body)) (to_be_bytes w32 l.next ++ (body ++ zeros)) in
    let three = length-append (to_be_bytes w32 l.next) (body ++ zeros) in
    let four = length-append body zeros in
    let five : length zeros ≡ 4088 - length body = length-replicate (4088 - length body) 0 in
    let fits = h.form.fits in
    omega (arith, all, one, two, three, four, five, fits)
