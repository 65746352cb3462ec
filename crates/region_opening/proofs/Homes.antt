-- Nodes that stand in the region of their names are some entries' part.
use Rattle.std.proofs.Common.{◌≡◌, ◌≢◌, ℕ, zero, suc, ◌+◌, ◌<◌, ◌==◌, Bool, true, false, cond, List, [], ◌∷◌, ◌++◌, length, filter, fold, flat_map, take, slice_get, Option, Some, None, refl, sym, ◌∙◌, ap, subst, arith, append-nil}
use Rattle.std.specs.Prelude.{unwrap_or}
use Rattle.std.specs.List.{list_all}
use Rattle.std.specs.Ordering.{eq_by_cmp}
use Rattle.std.specs.FinMap as globals
use Rattle.std.proofs.lemmas.Bool.{and_parts}
use Rattle.std.proofs.lemmas.Bool.Decides.{nat_tests}
use Rattle.std.proofs.lemmas.List.Elements.{filter-append}
use Rattle.std.proofs.lemmas.List.Sums.{fold-append}
use Rattle.global_defs.specs.Key.{Key, key_cmp}
use Rattle.global_defs.specs.Entry.{Entry, Globals, Sequence, Update, Set, apply, state}
use Rattle.global_defs.proofs.Order.{key_total, key_same}
use Rattle.journal_defs.specs.Directory.{Pattern, region_of}
use Rattle.journal_defs.specs.Fit.{region_of_update}
use Rattle.journal_defs.specs.Sound.{region_state}
use Rattle.block_laws.specs.Nodes.{updates_in}
use Rattle.block_laws.proofs.Parts as parts
use Rattle.region_opening.specs.Opening.{are_home}

abbrev Node : Type 0
Node = Key × List ℕ

-- a SET of each of these nodes, the last one first
abbrev sets : List Node → List Update
sets [] = []
sets (e ∷ es) = sets es ++ Set e.0 e.1 ∷ []

get_sets : (es : List Node) (q : Key) → globals.get (fold apply globals.empty (sets es)) q ≡ globals.find key_cmp q es
get_sets [] q = globals.get-empty key_cmp q
get_sets (e ∷ es) q =
    ap (λ (g : Globals). globals.get g q) (fold-append apply globals.empty (sets es) (Set e.0 e.1 ∷ []))
    ∙ globals.get-insert key_total (fold apply globals.empty (sets es)) e.0 e.1 q
    ∙ ap (λ (o : Option (List ℕ)). cond (eq_by_cmp key_cmp q e.0) (Some e.1) o) (get_sets es q)

-- all nodes of some globals make these
sets_make : (g : Globals) → fold apply globals.empty (sets (globals.entries g)) ≡ g
sets_make g = globals.same_map key_total key_same (fold apply globals.empty (sets (globals.entries g))) g (λ q. get_sets (globals.entries g) q ∙ sym (globals.get-entries g q))

-- a node of this region
abbrev is_at : List Pattern → ℕ → Node → Bool
is_at ps r e = region_of ps e.0.name == r

sets_in : (ps : List Pattern) (r : ℕ) (es : List Node) → updates_in ps r (sets es) ≡ sets (filter (is_at ps r) es)
sets_in ps r [] = refl
sets_in ps r (e ∷ es) =
    filter-append (λ (u : Update). region_of_update ps u == r) (sets es) (Set e.0 e.1 ∷ [])
    ∙ ap (λ (us : List Update). us ++ updates_in ps r (Set e.0 e.1 ∷ [])) (sets_in ps r es)
    ∙ last (is_at ps r e) refl
  where
    last : (b : Bool) → is_at ps r e ≡ b → sets (filter (is_at ps r) es) ++ updates_in ps r (Set e.0 e.1 ∷ []) ≡ sets (filter (is_at ps r) (e ∷ es))
    last true is = rw is refl
    last false is = rw is (append-nil (sets (filter (is_at ps r) es)))

-- an entry of these updates
abbrev entry_with : List Update → Entry
entry_with us = record { stamp = record { root = []; cycle = 0 }; transaction = record { origin = record { updater = 0; serial = 0 }; updates = us } }

-- a region's part of one entry that sets nodes
one_part : (ps : List Pattern) (r : ℕ) (es : List Node) → region_state ps r (entry_with (sets es) ∷ []) ≡ fold apply globals.empty (sets (filter (is_at ps r) es))
one_part ps r es =
    parts.step ps r [] (entry_with (sets es))
    ∙ ap (λ (g : Globals). fold apply g (updates_in ps r (sets es))) (parts.begins ps r)
    ∙ ap (fold apply globals.empty) (sets_in ps r es)

keep_all : {X : Type 0} (p : X → Bool) (xs : List X) → list_all p xs ≡ true → filter p xs ≡ xs
keep_all p [] all = refl
keep_all {X} p (x ∷ xs) all = let both = and_parts (p x) (list_all p xs) all in rw both.0 (ap (λ (ys : List X). x ∷ ys) (keep_all p xs both.1))

all_kept : {X : Type 0} (p : X → Bool) (xs : List X) → list_all p (filter p xs) ≡ true
all_kept p [] = refl
all_kept p (x ∷ xs) = by (p x) refl (all_kept p xs)
  where
    by : (b : Bool) → p x ≡ b → list_all p (filter p xs) ≡ true → list_all p (filter p (x ∷ xs)) ≡ true
    by true is rest = rw is (rw is rest)
    by false is rest = rw is rest

-- a region's part of a state stands in it
pub part_home : (ps : List Pattern) (r : ℕ) (seq : Sequence) → are_home ps r (region_state ps r seq) ≡ true
part_home ps r seq = ap (list_all (is_at ps r)) (parts.entries ps r seq) ∙ all_kept (is_at ps r) (globals.entries (state seq))

own_part : (ps : List Pattern) (r : ℕ) (g : Globals) → are_home ps r g ≡ true → region_state ps r (entry_with (sets (globals.entries g)) ∷ []) ≡ g
own_part ps r g home = one_part ps r (globals.entries g) ∙ ap (λ (es : List Node). fold apply globals.empty (sets es)) (keep_all (is_at ps r) (globals.entries g) home) ∙ sets_make g

-- nodes that stand in their region do so behind its updates
pub stay_home : (ps : List Pattern) (r : ℕ) (g : Globals) (us : List Update) → are_home ps r g ≡ true → are_home ps r (fold apply g (updates_in ps r us)) ≡ true
stay_home ps r g us home =
    let seq : Sequence = entry_with (sets (globals.entries g)) ∷ [] in
    ap (are_home ps r) (sym (parts.step ps r seq (entry_with us) ∙ ap (λ (h : Globals). fold apply h (updates_in ps r us)) (own_part ps r g home)))
    ∙ part_home ps r (seq ++ entry_with us ∷ [])

-- the nodes of all regions
abbrev all_nodes : List Globals → List Node
all_nodes gs = flat_map (λ (g : Globals). globals.entries g) gs

-- each of these regions, from number k on, has nodes that stand there
abbrev AreHome : List Pattern → ℕ → List Globals → Type 0
AreHome ps k gs = (i : ℕ) (g : Globals) → slice_get gs i ≡ Some g → are_home ps (k + i) g ≡ true

keep_none : (ps : List Pattern) (a r : ℕ) (es : List Node) → a ≢ r → list_all (is_at ps a) es ≡ true → filter (is_at ps r) es ≡ []
keep_none ps a r [] other all = refl
keep_none ps a r (e ∷ es) other all =
    let both = and_parts (is_at ps a e) (list_all (is_at ps a) es) all in
    let not_here : is_at ps r e ≡ false = elsewhere (region_of ps e.0.name) both.0 in
    rw not_here (keep_none ps a r es other both.1)
  where
    elsewhere : (n : ℕ) → (n == a) ≡ true → (n == r) ≡ false
    elsewhere n is = grind (arith, nat_tests, is, other)

next_home : (ps : List Pattern) (k : ℕ) (g : Globals) (gs : List Globals) → AreHome ps k (g ∷ gs) → AreHome ps (suc k) gs
next_home ps k g gs homes i h is = let same : k + suc i ≡ suc k + i = omega arith in subst (λ (n : ℕ). are_home ps n h ≡ true) same (homes (suc i) h is)

first_home : (ps : List Pattern) (k : ℕ) (g : Globals) (gs : List Globals) → AreHome ps k (g ∷ gs) → are_home ps k g ≡ true
first_home ps k g gs homes = let same : k + 0 ≡ k = omega arith in subst (λ (n : ℕ). are_home ps n g ≡ true) same (homes 0 g refl)

none_before : (ps : List Pattern) (k r : ℕ) (gs : List Globals) → AreHome ps k gs → r < k → filter (is_at ps r) (all_nodes gs) ≡ []
none_before ps k r [] homes low = refl
none_before ps k r (g ∷ gs) homes low =
    filter-append (is_at ps r) (globals.entries g) (all_nodes gs)
    ∙ ap (λ (es : List Node). es ++ filter (is_at ps r) (all_nodes gs)) (keep_none ps k r (globals.entries g) (λ e. omega (arith, e, low)) (first_home ps k g gs homes))
    ∙ none_before ps (suc k) r gs (next_home ps k g gs homes) (omega (arith, low))

one_of_all : (ps : List Pattern) (k i : ℕ) (gs : List Globals) (g : Globals) → AreHome ps k gs → slice_get gs i ≡ Some g → filter (is_at ps (k + i)) (all_nodes gs) ≡ globals.entries g
one_of_all ps k i [] g homes is = let gone : None ≡ Some g = is in cc
one_of_all ps k zero (h ∷ gs) g homes is =
    let same : h ≡ g = ap (λ (o : Option Globals). unwrap_or o h) is in
    let zero_more : k + 0 ≡ k = omega arith in
    ap (λ (n : ℕ). filter (is_at ps n) (all_nodes (h ∷ gs))) zero_more
    ∙ filter-append (is_at ps k) (globals.entries h) (all_nodes gs)
    ∙ ap (λ (es : List Node). filter (is_at ps k) (globals.entries h) ++ es) (none_before ps (suc k) k gs (next_home ps k h gs homes) (omega arith))
    ∙ ap (λ (es : List Node). es ++ []) (keep_all (is_at ps k) (globals.entries h) (first_home ps k h gs homes))
    ∙ append-nil (globals.entries h) ∙ ap (λ (x : Globals). globals.entries x) same
one_of_all ps k (suc i) (h ∷ gs) g homes is =
    let next : k + suc i ≡ suc k + i = omega arith in
    filter-append (is_at ps (k + suc i)) (globals.entries h) (all_nodes gs)
    ∙ ap (λ (es : List Node). es ++ filter (is_at ps (k + suc i)) (all_nodes gs)) (keep_none ps k (k + suc i) (globals.entries h) (λ e. omega (arith, e)) (first_home ps k h gs homes))
    ∙ ap (λ (n : ℕ). filter (is_at ps n) (all_nodes gs)) next ∙ one_of_all ps (suc k) i gs g (next_home ps k h gs homes) is

-- Regions whose nodes stand there have the parts of the state of one entry.
pub some_parts : (ps : List Pattern) (gs : List Globals) → ((i : ℕ) (g : Globals) → slice_get gs i ≡ Some g → are_home ps i g ≡ true)
    → (seq : Sequence) × ((r : ℕ) (g : Globals) → slice_get gs r ≡ Some g → g ≡ region_state ps r seq)
some_parts ps gs homes = (
  entry_with (sets (all_nodes gs)) ∷ [],
  λ r g is.
      let from_zero : r ≡ 0 + r = omega arith in
      sym
      (one_part ps r (all_nodes gs)
      ∙ ap (λ (n : ℕ). fold apply globals.empty (sets (filter (is_at ps n) (all_nodes gs)))) from_zero
      ∙ ap (λ (es : List Node). fold apply globals.empty (sets es)) (one_of_all ps 0 r gs g numbered is)
      ∙ sets_make g),
)
  where
    numbered : AreHome ps 0 gs
    numbered i g is = let from_zero : i ≡ 0 + i = omega arith in subst (λ (n : ℕ). are_home ps n g ≡ true) from_zero (homes i g is)

-- no nodes stand anywhere else
pub none_home : (ps : List Pattern) (r : ℕ) (g : Globals) → globals.len g ≡ 0 → are_home ps r g ≡ true
none_home ps r g none = every (globals.entries g) (sym (globals.len-entries g) ∙ none)
  where
    every : (es : List Node) → length es ≡ 0 → list_all (is_at ps r) es ≡ true
    every [] long = refl
    every (e ∷ es) long = absurd (omega (arith, long))

-- where there is one region, all nodes stand in it
pub one_home : (ps : List Pattern) (r : ℕ) (g : Globals) → ((name : List ℕ) → region_of ps name < 1) → r < 1 → are_home ps r g ≡ true
one_home ps r g one low = every (globals.entries g)
  where
    every : (es : List Node) → list_all (is_at ps r) es ≡ true
    every [] = refl
    every (e ∷ es) = let here : is_at ps r e ≡ true = grind (arith, nat_tests, one e.0.name, low) in rw here (every es)

-- nodes that don't stand there are no part of any state
pub not_part : (ps : List Pattern) (r : ℕ) (g : Globals) (seq : Sequence) → are_home ps r g ≡ false → g ≡ region_state ps r seq → ⊥
not_part ps r g seq away is = let no : true ≡ false = sym (part_home ps r seq) ∙ ap (are_home ps r) (sym is) ∙ away in cc

pub not_first_part : (ps : List Pattern) (r n : ℕ) (g : Globals) (seq : Sequence) → n ≡ 0 → (globals.len g ≡ 0 → ⊥) → g ≡ region_state ps r (take n seq) → ⊥
not_first_part ps r n g seq first some is =
    some (ap (λ (h : Globals). globals.len h) (is ∙ ap (λ (k : ℕ). region_state ps r (take k seq)) first ∙ parts.begins ps r) ∙ globals.len-empty key_cmp (List ℕ))
