-- Two lists of nodes are merged, and the lists of all regions.
use Rattle.std.proofs.Common.{◌≡◌, ℕ, ◌+◌, ◌<◌, ◌≤◌, ◌==◌, Bool, true, false, cond, not, ◌&&◌, List, [], ◌∷◌, ◌++◌, length, map, filter, slice_get, Some, refl, sym, ◌∙◌, ap, arith}
use Rattle.std.specs.Prelude.{IsTrue, T, nat_lt}
use Rattle.std.specs.declared.cmp.Ordering.{Ordering}
use Rattle.std.specs.declared.cmp.Ordering.TheVariants.{Less, Equal, Greater}
use Rattle.std.specs.Ordering.{is_lt, ordering_reverse}
use Rattle.std.specs.FinMap as globals
use Rattle.std.specs.FinMap.Entries as lists
use Rattle.std.proofs.lemmas.Bool.{and_parts}
use Rattle.std.proofs.lemmas.Bool.Decides.{nat_tests}
use Rattle.std.proofs.lemmas.List.{append_assoc, map-append}
use Rattle.global_defs.specs.Key.{Key, key_cmp}
use Rattle.global_defs.specs.Entry.{Globals}
use Rattle.global_defs.proofs.Order.{key_total}
use Rattle.journal_defs.specs.Directory.{region_of}
use Rattle.block_laws.proofs.Parts as parts
use Rattle.gvt_leaf.specs.declared.nodes.Node.{Node}
use Rattle.gvt_leaf.specs.Listed.{node_value}
use Rattle.region_store.specs.Region.{Standing}
use Rattle.region_store.specs.Joined.{Joined, AreJoined, joined}
use Rattle.region_store.specs.Merged.{Nodes, AreShared, IsTaken, First, Second, comes_first, from_end}
use Rattle.region_store.proofs.Parts.{joined_is, part_at, region_inside}

-- Of an ordered list these nodes are taken, and two lists share out what is left.
pub record IsLeft (all taken first second : Nodes) (p : Key → Bool) : Type 0 where
  pub left : Nodes
  pub is : all ≡ taken ++ left
  pub sorted : IsTrue (globals.is_sorted key_cmp left)
  pub shared : AreShared left first second p

-- the nodes of the regions below this number
abbrev pub of_first : Joined → ℕ → Nodes
of_first j n = filter (λ e. nat_lt (region_of j.patterns e.0.name) n) (globals.entries (joined j))

-- ---- lists

module _ {X : Type 0} where
  abbrev head_or : X → List X → X
  head_or d [] = d
  head_or d (x ∷ xs) = x

  abbrev behind : List X → List X
  behind [] = []
  behind (x ∷ xs) = xs

  same_head : (x y : X) (xs ys : List X) → x ∷ xs ≡ y ∷ ys → x ≡ y
  same_head x y xs ys is = ap (head_or x) is

  same_rest : (x y : X) (xs ys : List X) → x ∷ xs ≡ y ∷ ys → xs ≡ ys
  same_rest x y xs ys is = ap behind is

  -- those of some that pass another test
  filter_twice : (p q r : X → Bool) → ((x : X) → (q x && p x) ≡ r x) → (xs : List X) → filter p (filter q xs) ≡ filter r xs
  filter_twice p q r same [] = refl
  filter_twice p q r same (x ∷ xs) = by (q x) (p x) (r x) (same x) (filter_twice p q r same xs) refl
    where
      by : (b c d : Bool) → (b && c) ≡ d → filter p (filter q xs) ≡ filter r xs → p x ≡ c → filter p (cond b (x ∷ filter q xs) (filter q xs)) ≡ cond d (x ∷ filter r xs) (filter r xs)
      by true true d is rest here = ap (λ (t : Bool). cond t (x ∷ filter p (filter q xs)) (filter p (filter q xs))) here ∙ ap (λ (ys : List X). x ∷ ys) rest ∙ ap (λ (t : Bool). cond t (x ∷ filter r xs) (filter r xs)) is
      by true false d is rest here = ap (λ (t : Bool). cond t (x ∷ filter p (filter q xs)) (filter p (filter q xs))) here ∙ rest ∙ ap (λ (t : Bool). cond t (x ∷ filter r xs) (filter r xs)) is
      by false c d is rest here = rest ∙ ap (λ (t : Bool). cond t (x ∷ filter r xs) (filter r xs)) is

  filter_all : (p : X → Bool) → ((x : X) → p x ≡ true) → (xs : List X) → filter p xs ≡ xs
  filter_all p each [] = refl
  filter_all p each (x ∷ xs) = ap (λ (b : Bool). cond b (x ∷ filter p xs) (filter p xs)) (each x) ∙ ap (λ (ys : List X). x ∷ ys) (filter_all p each xs)

  filter_none : (p : X → Bool) → ((x : X) → p x ≡ false) → (xs : List X) → filter p xs ≡ []
  filter_none p each [] = refl
  filter_none p each (x ∷ xs) = ap (λ (b : Bool). cond b (x ∷ filter p xs) (filter p xs)) (each x) ∙ filter_none p each xs

-- ---- a test of an ordered list

below_kept : (k : Key) (p : Key → Bool) (es : Nodes) → lists.below_all key_cmp k es ≡ true → lists.below_all key_cmp k (filter (λ e. p e.0) es) ≡ true
below_kept k p [] below = refl
below_kept k p (e ∷ es) below = by (p e.0) (below_kept k p es (and_parts (is_lt (key_cmp k e.0)) (lists.below_all key_cmp k es) below).1)
  where
    by : (b : Bool) → lists.below_all key_cmp k (filter (λ e. p e.0) es) ≡ true → lists.below_all key_cmp k (cond b (e ∷ filter (λ e. p e.0) es) (filter (λ e. p e.0) es)) ≡ true
    by true rest = ap (λ (b : Bool). b && lists.below_all key_cmp k (filter (λ e. p e.0) es)) (and_parts (is_lt (key_cmp k e.0)) (lists.below_all key_cmp k es) below).0 ∙ rest
    by false rest = rest

-- of the nodes behind one the first that passes a test is behind it
first_below : (k : Key) (p : Key → Bool) (es : Nodes) (x : Key × List ℕ) (more : Nodes) → lists.below_all key_cmp k es ≡ true → filter (λ e. p e.0) es ≡ x ∷ more → is_lt (key_cmp k x.0) ≡ true
first_below k p es x more below is = (and_parts (is_lt (key_cmp k x.0)) (lists.below_all key_cmp k more) (sym (ap (lists.below_all key_cmp k) is) ∙ below_kept k p es below)).0

-- a key isn't below one that is below it
not_back : (a b : Key) → is_lt (key_cmp a b) ≡ true → is_lt (key_cmp b a) ≡ true → ⊥
not_back a b one other = by (key_cmp a b) one (sym (ap is_lt (key_total.antisymm b a)) ∙ other)
  where
    by : (o : Ordering) → is_lt o ≡ true → is_lt (ordering_reverse o) ≡ true → ⊥
    by Less one other = cc
    by Equal one other = cc
    by Greater one other = cc

-- what the list is behind the node that is taken
abbrev Rest : Nodes → Key × List ℕ → Nodes → Nodes → (Key → Bool) → Type 0
Rest all x more others p = (rest : Nodes) × (all ≡ x ∷ rest) × (globals.is_sorted key_cmp rest ≡ true) × AreShared rest more others p

true_false : true ≡ false → ⊥
true_false e = cc

module _ (e : Key × List ℕ) (es : Nodes) (p : Key → Bool) where
  abbrev passing : Nodes
  passing = filter (λ (a : Key × List ℕ). p a.0) es

  abbrev failing : Nodes
  failing = filter (λ (a : Key × List ℕ). not (p a.0)) es

  taken_by : (b : Bool) → p e.0 ≡ b → (x : Key × List ℕ) (xs ys more others : Nodes) → globals.is_sorted key_cmp (e ∷ es) ≡ true → AreShared (e ∷ es) xs ys p → IsTaken x xs ys more others → Rest (e ∷ es) x more others p
  taken_by true here x xs ys more others sorted shared (First before is same) =
      let all : e ∷ passing ≡ x ∷ more = sym (ap (λ (b : Bool). cond b (e ∷ passing) passing) here) ∙ shared.passed ∙ is in
      let rest : failing ≡ ys = sym (ap (λ (b : Bool). cond (not b) (e ∷ failing) failing) here) ∙ shared.others in
      (es, ap (λ (a : Key × List ℕ). a ∷ es) (same_head e x passing more all), (and_parts (lists.below_all key_cmp e.0 es) (globals.is_sorted key_cmp es) sorted).1, record { passed = same_rest e x passing more all; others = rest ∙ same })
  taken_by true here x xs ys more others sorted shared (Second before is same) =
      let all : e ∷ passing ≡ xs = sym (ap (λ (b : Bool). cond b (e ∷ passing) passing) here) ∙ shared.passed in
      let rest : failing ≡ x ∷ others = sym (ap (λ (b : Bool). cond (not b) (e ∷ failing) failing) here) ∙ shared.others ∙ is in
      let yes = first_below e.0 (λ k. not (p k)) es x others (and_parts (lists.below_all key_cmp e.0 es) (globals.is_sorted key_cmp es) sorted).0 rest in
      let no : is_lt (key_cmp e.0 x.0) ≡ false = ap (λ (zs : Nodes). comes_first zs (x ∷ others)) all ∙ ap (comes_first xs) (sym is) ∙ before in
      absurd (true_false (sym yes ∙ no))
  taken_by false here x xs ys more others sorted shared (First before is same) =
      let rest : passing ≡ x ∷ more = sym (ap (λ (b : Bool). cond b (e ∷ passing) passing) here) ∙ shared.passed ∙ is in
      let all : e ∷ failing ≡ ys = sym (ap (λ (b : Bool). cond (not b) (e ∷ failing) failing) here) ∙ shared.others in
      let yes = first_below e.0 p es x more (and_parts (lists.below_all key_cmp e.0 es) (globals.is_sorted key_cmp es) sorted).0 rest in
      let back : is_lt (key_cmp x.0 e.0) ≡ true = ap (comes_first (x ∷ more)) all ∙ ap (λ (zs : Nodes). comes_first zs ys) (sym is) ∙ before in
      absurd (not_back e.0 x.0 yes back)
  taken_by false here x xs ys more others sorted shared (Second before is same) =
      let rest : passing ≡ xs = sym (ap (λ (b : Bool). cond b (e ∷ passing) passing) here) ∙ shared.passed in
      let all : e ∷ failing ≡ x ∷ others = sym (ap (λ (b : Bool). cond (not b) (e ∷ failing) failing) here) ∙ shared.others ∙ is in
      (es, ap (λ (a : Key × List ℕ). a ∷ es) (same_head e x failing others all), (and_parts (lists.below_all key_cmp e.0 es) (globals.is_sorted key_cmp es) sorted).1, record { passed = rest ∙ same; others = same_rest e x failing others all })

  -- a list of which no node passes or fails has none
  some_share : (b : Bool) → p e.0 ≡ b → filter (λ (a : Key × List ℕ). p a.0) (e ∷ es) ≡ [] → filter (λ (a : Key × List ℕ). not (p a.0)) (e ∷ es) ≡ [] → ⊥
  some_share true here passed failed = let gone : e ∷ passing ≡ [] = sym (ap (λ (b : Bool). cond b (e ∷ passing) passing) here) ∙ passed in cc
  some_share false here passed failed = let gone : e ∷ failing ≡ [] = sym (ap (λ (b : Bool). cond (not b) (e ∷ failing) failing) here) ∙ failed in cc

taken_from : (all : Nodes) (p : Key → Bool) (x : Key × List ℕ) (xs ys more others : Nodes) → globals.is_sorted key_cmp all ≡ true → AreShared all xs ys p → IsTaken x xs ys more others → Rest all x more others p
taken_from [] p x xs ys more others sorted shared (First before is same) = let gone : [] ≡ x ∷ more = shared.passed ∙ is in cc
taken_from [] p x xs ys more others sorted shared (Second before is same) = let gone : [] ≡ x ∷ others = shared.others ∙ is in cc
taken_from (e ∷ es) p x xs ys more others sorted shared taken = taken_by e es p (p e.0) refl x xs ys more others sorted shared taken

nothing_left : (all : Nodes) (p : Key → Bool) → AreShared all [] [] p → all ≡ []
nothing_left [] p shared = refl
nothing_left (e ∷ es) p shared = absurd (some_share e es p (p e.0) refl shared.passed shared.others)

-- ---- the loop

pub left_more : (all : Nodes) (p : Key → Bool) (taken more_taken : List Node) (x : Node) (xs ys more others : Nodes) → more_taken ≡ taken ++ x ∷ [] → IsTaken (node_value x) xs ys more others → IsLeft all (map node_value taken) xs ys p
    → IsLeft all (map node_value more_taken) more others p
left_more all p taken more_taken x xs ys more others is took l =
    let rest = taken_from l.left p (node_value x) xs ys more others l.sorted l.shared took in
    record {
      left = rest.0;
      is = l.is ∙ ap (λ (es : Nodes). map node_value taken ++ es) rest.1 ∙ sym (append_assoc (map node_value taken) (node_value x ∷ []) rest.0)
          ∙ ap (λ (es : Nodes). es ++ rest.0) (sym (ap (map node_value) is ∙ map-append node_value taken (x ∷ [])));
      sorted = rest.2;
      shared = rest.3;
    }

pub left_none : (all : Nodes) (p : Key → Bool) (taken a b : List Node) → a ≡ [] → b ≡ [] → IsLeft all (map node_value taken) (from_end a) (from_end b) p → map node_value taken ≡ all
left_none all p taken a b one other l =
    let none = nothing_left l.left p (record { passed = l.shared.passed ∙ ap from_end one; others = l.shared.others ∙ ap from_end other }) in
    sym (l.is ∙ ap (λ (es : Nodes). map node_value taken ++ es) none ∙ append_nil (map node_value taken))
  where
    append_nil : (es : Nodes) → es ++ [] ≡ es
    append_nil [] = refl
    append_nil (e ∷ es) = ap (λ (fs : Nodes). e ∷ fs) (append_nil es)

-- ---- the lists of all regions

as_true : (b : Bool) → T b → b ≡ true
as_true true h = refl
as_true false h = absurd h

below_test : (r i : ℕ) → (nat_lt r (i + 1) && nat_lt r i) ≡ nat_lt r i
below_test r i = grind (arith, nat_tests)

at_test : (r i : ℕ) → (nat_lt r (i + 1) && not (nat_lt r i)) ≡ (r == i)
at_test r i = grind (arith, nat_tests)

none_below : (r : ℕ) → nat_lt r 0 ≡ false
none_below r = grind (arith, nat_tests)

is_below : (r n : ℕ) → r < n → nat_lt r n ≡ true
is_below r n low = grind (arith, nat_tests, low)

module _ (j : Joined) where
  pub first_none : of_first j 0 ≡ []
  first_none = filter_none (λ (e : Key × List ℕ). nat_lt (region_of j.patterns e.0.name) 0) (λ e. none_below (region_of j.patterns e.0.name)) (globals.entries (joined j))

  pub first_sorted : (n : ℕ) → IsTrue (globals.is_sorted key_cmp (of_first j n))
  first_sorted n = as_true (globals.is_sorted key_cmp (of_first j n)) (lists.is_sorted-where_key key_cmp (λ k. nat_lt (region_of j.patterns k.name) n) (globals.entries (joined j)) (globals.entries_sorted (joined j)))

  module _ (h : AreJoined j) where
    pub first_more : (i : ℕ) (s : Standing) (xs ys : Nodes) → slice_get j.regions i ≡ Some s → xs ≡ of_first j i → ys ≡ globals.entries s.globals → AreShared (of_first j (i + 1)) xs ys (λ k. nat_lt (region_of j.patterns k.name) i)
    first_more i s xs ys here one other = record {
      passed = filter_twice (λ (e : Key × List ℕ). nat_lt (region_of j.patterns e.0.name) i) (λ e. nat_lt (region_of j.patterns e.0.name) (i + 1)) (λ e. nat_lt (region_of j.patterns e.0.name) i)
          (λ e. below_test (region_of j.patterns e.0.name) i) (globals.entries (joined j))
          ∙ sym one;
      others = filter_twice (λ (e : Key × List ℕ). not (nat_lt (region_of j.patterns e.0.name) i)) (λ e. nat_lt (region_of j.patterns e.0.name) (i + 1)) (λ e. region_of j.patterns e.0.name == i)
          (λ e. at_test (region_of j.patterns e.0.name) i) (globals.entries (joined j))
          ∙ ap (λ (g : Globals). filter (λ (e : Key × List ℕ). region_of j.patterns e.0.name == i) (globals.entries g)) (joined_is j h)
          ∙ sym (parts.entries j.patterns i h.entries)
          ∙ ap (λ (g : Globals). globals.entries g) (sym (part_at j h i s here))
          ∙ sym other;
    }

    pub first_all : (n : ℕ) → length j.regions ≤ n → of_first j n ≡ globals.entries (joined j)
    first_all n all =
        filter_all (λ (e : Key × List ℕ). nat_lt (region_of j.patterns e.0.name) n) (λ e. is_below (region_of j.patterns e.0.name) n (let low = region_inside j h e.0.name in omega (arith, low, all))) (globals.entries (joined j))
