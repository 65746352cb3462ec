-- A region's part of the state.
use Rattle.std.proofs.Common.{◌≡◌, ◌≢◌, inl, inr, ℕ, zero, suc, ◌+◌, ◌<◌, ◌≤◌, Bool, true, false, ◌==◌, cond, List, [], ◌∷◌, ◌++◌, length, map, take, drop, filter, fold, flat_map, Option, None, IsTrue, T, refl, sym, ◌∙◌, ap, subst, arith, append-nil}
use Rattle.std.specs.Prelude.{not}
use Rattle.std.proofs.lemmas.Bool.{cases_Bool, cases_eq}
use Rattle.std.proofs.lemmas.Bool.Decides.{nat_tests}
use Rattle.std.proofs.lemmas.Grind.{flat_map-append}
use Rattle.std.proofs.lemmas.List.{take-append-drop}
use Rattle.std.proofs.lemmas.List.Sums.{fold-append}
use Rattle.std.specs.declared.cmp.Ordering.TheVariants.{Less, Equal, Greater}
use Rattle.std.specs.List.{AllByRecursion}
use Rattle.std.specs.Ordering.{eq_by_cmp}
use Rattle.std.specs.FinMap as globals
use Rattle.std.specs.FinMap.Entries as lists
use Rattle.global_defs.specs.declared.limits.TheConstants.{LONGEST_VALUE}
use Rattle.global_defs.specs.Key.{Key, key_cmp}
use Rattle.global_defs.specs.Valid.{is_key}
use Rattle.global_defs.specs.Fields.{IsUpdate, IsTransaction}
use Rattle.global_defs.specs.Entry.{Entry, Globals, Sequence, Update, Set, Kill, ZKill, apply, is_under, state}
use Rattle.global_defs.proofs.Order.{key_total, key_same}
use Rattle.journal_defs.specs.Journal.{Item}
use Rattle.journal_defs.specs.Directory.{Pattern, region_of}
use Rattle.journal_defs.specs.Split.{numbered, items_for}
use Rattle.journal_defs.specs.Fit.{region_of_update}
use Rattle.journal_defs.specs.Sound.{region_state}
use Rattle.journal_laws.proofs.Regions as regions
use Rattle.block_laws.specs.Nodes.{HaveKeys, HaveShortValues, updates_of, updates_in, sum_below}
use Rattle.block_laws.proofs.Kept.{get_kept, kept_all, entries_kept, remove_is}
use Rattle.journal_laws.proofs.EveryTarget.{eq_self}
use Rattle.journal_laws.proofs.ImageSteps.{all_both as all_append}

nothing_left : (b : Bool) → ◌≡◌ {A = Option (List ℕ)} (cond b None None) None
nothing_left true = refl
nothing_left false = refl

pub begins : (ps : List Pattern) (r : ℕ) → region_state ps r [] ≡ globals.empty
begins ps r = globals.same_map key_total key_same (region_state ps r []) globals.empty (λ q.
    get_kept globals.empty (λ k. region_of ps k.name == r) q ∙ ap (λ (o : Option (List ℕ)). cond (region_of ps q.name == r) o None) (globals.get-empty key_cmp q)
    ∙ nothing_left (region_of ps q.name == r) ∙ sym (globals.get-empty key_cmp q))

state_more : (seq : Sequence) (e : Entry) → state (seq ++ e ∷ []) ≡ fold apply (state seq) e.transaction.updates
state_more seq e =
    ap (fold apply globals.empty) (flat_map-append (λ (x : Entry). x.transaction.updates) seq (e ∷ []) ∙ ap (λ (us : List Update). flat_map (λ (x : Entry). x.transaction.updates) seq ++ us) (append-nil e.transaction.updates))
    ∙ fold-append apply globals.empty (flat_map (λ (x : Entry). x.transaction.updates) seq) e.transaction.updates

pub step : (ps : List Pattern) (r : ℕ) (seq : Sequence) (e : Entry) → region_state ps r (seq ++ e ∷ []) ≡ fold apply (region_state ps r seq) (updates_in ps r e.transaction.updates)
step ps r seq e =
    ap (λ (g : Globals). globals.retain_keys g (λ k. region_of ps k.name == r)) (state_more seq e)
    ∙ kept_all (λ name. region_of ps name == r) e.transaction.updates (state seq)

items_from : (ps : List Pattern) (r i : ℕ) (us : List Update) → map (λ (x : Item). x.update) (filter (λ (x : Item). region_of_update ps x.update == r) (numbered i us)) ≡ updates_in ps r us
items_from ps r i [] = refl
items_from ps r i (u ∷ us) = elim (cases_Bool (region_of_update ps u == r)) [
  | inl h ↦ rw h (ap (λ (l : List Update). u ∷ l) (items_from ps r (suc i) us))
  | inr h ↦ rw h (items_from ps r (suc i) us)
]

pub items : (ps : List Pattern) (r : ℕ) (us : List Update) → map (λ (i : Item). i.update) (items_for (region_of_update ps) r us) ≡ updates_in ps r us
items ps r us = items_from ps r 0 us

eq_not : (a b : ℕ) → a ≢ b → (a == b) ≡ false
eq_not a b h = grind (arith, nat_tests)

pub get : (ps : List Pattern) (seq : Sequence) (k : Key) → globals.get (region_state ps (region_of ps k.name) seq) k ≡ globals.get (state seq) k
get ps seq k = get_kept (state seq) (λ x. region_of ps x.name == region_of ps k.name) k ∙ ap (λ (b : Bool). cond b (globals.get (state seq) k) None) (eq_self (region_of ps k.name))

pub elsewhere : (ps : List Pattern) (seq : Sequence) (r : ℕ) (k : Key) → region_of ps k.name ≢ r → globals.get (region_state ps r seq) k ≡ None
elsewhere ps seq r k other = get_kept (state seq) (λ x. region_of ps x.name == r) k ∙ ap (λ (b : Bool). cond b (globals.get (state seq) k) None) (eq_not (region_of ps k.name) r other)

pub entries : (ps : List Pattern) (r : ℕ) (seq : Sequence) → globals.entries (region_state ps r seq) ≡ filter (λ e. region_of ps e.0.name == r) (globals.entries (state seq))
entries ps r seq = entries_kept (state seq) (λ k. region_of ps k.name == r)

-- T and IsTrue
as_T : (b : Bool) → b ≡ true → T b
as_T true h = tt
as_T false h = cc

pub merged : (ps : List Pattern) (seq : Sequence) (es : List (Key × List ℕ)) → IsTrue (globals.is_sorted key_cmp es)
    → ((r : ℕ) → filter (λ e. region_of ps e.0.name == r) es ≡ globals.entries (region_state ps r seq)) → es ≡ globals.entries (state seq)
merged ps seq es sorted each = lists.same_entries key_cmp key_total key_same es (globals.entries (state seq)) (as_T (globals.is_sorted key_cmp es) sorted) (globals.entries_sorted (state seq)) (λ q.
    let r : ℕ = region_of ps q.name in
    sym (lists.find-where_key key_cmp (λ k. region_of ps k.name == r) q (λ x e. ap (λ (k : Key). region_of ps k.name == r) (sym (key_same q x e))) es
    ∙ ap (λ (b : Bool). cond b (globals.find key_cmp q es) None) (eq_self r))
    ∙ ap (globals.find key_cmp q) (each r) ∙ sym (globals.get-entries (region_state ps r seq) q) ∙ get ps seq q ∙ globals.get-entries (state seq) q)

-- how many entries there are
sum_none : (n : ℕ) (f : ℕ → ℕ) → ((r : ℕ) → r < n → f r ≡ 0) → sum_below n f ≡ 0
sum_none zero f none = refl
sum_none (suc n) f none = let rest = sum_none n f (λ r low. none r (omega arith)) in let here = none n (omega arith) in omega (arith, rest, here)

sum_same : (n : ℕ) (f g : ℕ → ℕ) → ((r : ℕ) → r < n → f r ≡ g r) → sum_below n f ≡ sum_below n g
sum_same zero f g same = refl
sum_same (suc n) f g same = let rest = sum_same n f g (λ r low. same r (omega arith)) in let here = same n (omega arith) in omega (arith, rest, here)

sum_one : (n c : ℕ) (f g : ℕ → ℕ) → c < n → ((r : ℕ) → r ≢ c → g r ≡ f r) → g c ≡ f c + 1 → sum_below n g ≡ sum_below n f + 1
sum_one zero c f g low other here = absurd (omega arith)
sum_one (suc n) c f g low other here = elim (cases_eq c n) [
  | inl e ↦
      let rest = sum_same n g f (λ r less. other r (λ is. omega arith)) in
      let last : g n ≡ f n + 1 = subst (λ (k : ℕ). g k ≡ f k + 1) e here in
      omega (arith, rest, last)
  | inr e ↦
      let rest = sum_one n c f g (omega arith) other here in
      let last = other n (λ is. e (sym is)) in
      omega (arith, rest, last)
]

length_by : {X : Type 0} (n : ℕ) (f : X → ℕ) (xs : List X) → ((x : X) → f x < n) → length xs ≡ sum_below n (λ r. length (filter (λ x. f x == r) xs))
length_by n f [] low = sym (sum_none n (λ r. 0) (λ r less. refl))
length_by {X} n f (x ∷ xs) low =
    let rest = length_by n f xs low in
    let more : sum_below n (λ r. length (filter (λ y. f y == r) (x ∷ xs))) ≡ sum_below n (λ r. length (filter (λ y. f y == r) xs)) + 1 =
    sum_one n (f x) (λ r. length (filter (λ y. f y == r) xs)) (λ r. length (filter (λ y. f y == r) (x ∷ xs))) (low x)
    (λ r other. ap (λ (b : Bool). length (cond b (x ∷ filter (λ y. f y == r) xs) (filter (λ y. f y == r) xs))) (eq_not (f x) r (λ e. other (sym e))))
    (ap (λ (b : Bool). length (cond b (x ∷ filter (λ y. f y == f x) xs) (filter (λ y. f y == f x) xs))) (eq_self (f x)) ∙ sizes (length (filter (λ y. f y == f x) xs))) in
    omega (arith, rest, more)
  where
    sizes : (k : ℕ) → suc k ≡ k + 1
    sizes k = omega arith

pub len : (ps : List Pattern) (n : ℕ) (seq : Sequence) → 0 < n → AllByRecursion (λ p. p.region < n) ps → globals.len (state seq) ≡ sum_below n (λ r. globals.len (region_state ps r seq))
len ps n seq some within =
    globals.len-entries (state seq) ∙ length_by n (λ (e : Key × List ℕ). region_of ps e.0.name) (globals.entries (state seq)) (λ e. regions.below ps e.0.name n some within)
    ∙ sum_same n (λ r. length (filter (λ (e : Key × List ℕ). region_of ps e.0.name == r) (globals.entries (state seq)))) (λ r. globals.len (region_state ps r seq))
    (λ r low. sym (globals.len-entries (region_state ps r seq) ∙ ap length (entries ps r seq)))

-- what holds of each entry
all_filter : {X : Type 0} (P : X → Type 0) (p : X → Bool) (xs : List X) → AllByRecursion P xs → AllByRecursion P (filter p xs)
all_filter P p [] all = tt
all_filter P p (x ∷ xs) all = elim (p x) as (λ b. AllByRecursion P (cond b (x ∷ filter p xs) (filter p xs))) [ true ↦ (all.0, all_filter P p xs all.1) | false ↦ all_filter P p xs all.1 ]

-- a node with a key that there is, and a value that is not too long
abbrev IsNode : Key × List ℕ → Type 0
IsNode e = (IsTrue (is_key e.0)) × (length e.1 ≤ LONGEST_VALUE)

put_nodes : (k : Key) (v : List ℕ) (es : List (Key × List ℕ)) → IsTrue (is_key k) → length v ≤ LONGEST_VALUE → AllByRecursion IsNode es → AllByRecursion IsNode (lists.put key_cmp k v es)
put_nodes k v [] key few all = ((key, few), tt)
put_nodes k v (e ∷ es) key few all =
    elim (key_cmp k e.0) as (λ o. AllByRecursion IsNode (lists.by_order o ((k, v) ∷ e ∷ es) ((e.0, v) ∷ es) (e ∷ lists.put key_cmp k v es))) [
      | Less ↦ ((key, few), all)
      | Equal ↦ ((all.0.0, few), all.1)
      | Greater ↦ (all.0, put_nodes k v es key few all.1)
    ]

-- all nodes are such
abbrev HaveNodes : Globals → Type 0
HaveNodes g = AllByRecursion IsNode (globals.entries g)

nodes_kept : (g : Globals) (p : Key → Bool) → HaveNodes g → HaveNodes (globals.retain_keys g p)
nodes_kept g p all = subst (AllByRecursion IsNode) (sym (entries_kept g p)) (all_filter IsNode (λ e. p e.0) (globals.entries g) all)

nodes_step : (g : Globals) (u : Update) → IsUpdate u → HaveNodes g → HaveNodes (apply g u)
nodes_step g (Set key value) form all = subst (AllByRecursion IsNode) (sym (globals.entries-insert key_total g key value)) (put_nodes key value (globals.entries g) form.0 form.1 all)
nodes_step g (Kill key) form all = nodes_kept g (λ k. not (is_under key k)) all
nodes_step g (ZKill key) form all = subst HaveNodes (sym (remove_is g key)) (nodes_kept g (λ x. not (eq_by_cmp key_cmp x key)) all)

nodes_all : (us : List Update) (g : Globals) → AllByRecursion IsUpdate us → HaveNodes g → HaveNodes (fold apply g us)
nodes_all [] g forms all = all
nodes_all (u ∷ us) g forms all = nodes_all us (apply g u) forms.1 (nodes_step g u forms.0 all)

updates_form : (seq : Sequence) → AllByRecursion (λ e. IsTransaction e.transaction) seq → AllByRecursion IsUpdate (flat_map (λ (e : Entry). e.transaction.updates) seq)
updates_form [] all = tt
updates_form (e ∷ es) all = all_append IsUpdate e.transaction.updates (flat_map (λ (x : Entry). x.transaction.updates) es) all.0.each (updates_form es all.1)

none_in : (es : List (Key × List ℕ)) → length es ≡ 0 → AllByRecursion IsNode es
none_in [] none = tt
none_in (e ∷ es) none = absurd (omega (arith, none))

-- no nodes
abbrev nothing : Globals
nothing = globals.empty

nothing_in : HaveNodes nothing
nothing_in = none_in (globals.entries nothing) (sym (globals.len-entries nothing) ∙ globals.len-empty key_cmp (List ℕ))

nodes : (ps : List Pattern) (r : ℕ) (seq : Sequence) → AllByRecursion (λ e. IsTransaction e.transaction) seq → HaveNodes (region_state ps r seq)
nodes ps r seq forms = nodes_kept (state seq) (λ k. region_of ps k.name == r) (nodes_all (flat_map (λ (e : Entry). e.transaction.updates) seq) globals.empty (updates_form seq forms) nothing_in)

all_so : {X : Type 0} (P Q : X → Type 0) (xs : List X) → ((x : X) → P x → Q x) → AllByRecursion P xs → AllByRecursion Q xs
all_so P Q [] so all = tt
all_so P Q (x ∷ xs) so all = (so x all.0, all_so P Q xs so all.1)

pub keys : (ps : List Pattern) (r : ℕ) (seq : Sequence) → AllByRecursion (λ e. IsTransaction e.transaction) seq → HaveKeys (region_state ps r seq)
keys ps r seq forms = all_so IsNode (λ e. IsTrue (is_key e.0)) (globals.entries (region_state ps r seq)) (λ x h. h.0) (nodes ps r seq forms)

pub values : (ps : List Pattern) (r : ℕ) (seq : Sequence) → AllByRecursion (λ e. IsTransaction e.transaction) seq → HaveShortValues (region_state ps r seq)
values ps r seq forms = all_so IsNode (λ e. length e.1 ≤ LONGEST_VALUE) (globals.entries (region_state ps r seq)) (λ x h. h.1) (nodes ps r seq forms)

pub replay : (ps : List Pattern) (r n : ℕ) (seq : Sequence) → region_state ps r seq ≡ fold apply (region_state ps r (take n seq)) (updates_in ps r (updates_of (drop n seq)))
replay ps r n seq =
    ap (λ (g : Globals). globals.retain_keys g (λ k. region_of ps k.name == r))
    (ap (fold apply globals.empty) (ap updates_of (sym (take-append-drop n seq)) ∙ flat_map-append (λ (x : Entry). x.transaction.updates) (take n seq) (drop n seq))
    ∙ fold-append apply globals.empty (updates_of (take n seq)) (updates_of (drop n seq)))
    ∙ kept_all (λ name. region_of ps name == r) (updates_of (drop n seq)) (state (take n seq))

twice : {X : Type 0} (f p : X → Bool) (xs : List X) → ((x : X) → f x ≡ true → p x ≡ true) → filter f (filter p xs) ≡ filter f xs
twice f p [] so = refl
twice {X} f p (x ∷ xs) so = elim (cases_Bool (p x)) [
  | inl h ↦ rw h (elim (f x) as (λ b. cond b (x ∷ filter f (filter p xs)) (filter f (filter p xs)) ≡ cond b (x ∷ filter f xs) (filter f xs)) [
    | true ↦ ap (λ (l : List X). x ∷ l) (twice f p xs so)
    | false ↦ twice f p xs so
  ])
  | inr h ↦ rw h (twice f p xs so ∙ sym (ap (λ (b : Bool). cond b (x ∷ filter f xs) (filter f xs)) (not_so (f x) (p x) (so x) h)))
]
  where
    not_so : (a b : Bool) → (a ≡ true → b ≡ true) → b ≡ false → a ≡ false
    not_so true b go gone = sym (go refl) ∙ gone
    not_so false b go gone = refl

pub of_names : (ps : List Pattern) (r : ℕ) (seq : Sequence) (f : Key → Bool) → ((k : Key) → f k ≡ true → region_of ps k.name ≡ r)
    → filter (λ e. f e.0) (globals.entries (region_state ps r seq)) ≡ filter (λ e. f e.0) (globals.entries (state seq))
of_names ps r seq f so =
    ap (filter (λ (e : Key × List ℕ). f e.0)) (entries ps r seq)
    ∙ twice (λ (e : Key × List ℕ). f e.0) (λ (e : Key × List ℕ). region_of ps e.0.name == r) (globals.entries (state seq)) (λ e h. ap (λ (n : ℕ). n == r) (so e.0 h) ∙ eq_self r)

-- one update
keys_step : (P : Key × List ℕ → Type 0) (g : Globals) (u : Update) → ((k : Key) (v : List ℕ) → u ≡ Set k v → (es : List (Key × List ℕ)) → AllByRecursion P es → AllByRecursion P (lists.put key_cmp k v es))
    → AllByRecursion P (globals.entries g) → AllByRecursion P (globals.entries (apply g u))
keys_step P g (Set key value) put all = subst (AllByRecursion P) (sym (globals.entries-insert key_total g key value)) (put key value refl (globals.entries g) all)
keys_step P g (Kill key) put all = subst (AllByRecursion P) (sym (entries_kept g (λ k. not (is_under key k)))) (all_filter P (λ e. not (is_under key e.0)) (globals.entries g) all)
keys_step P g (ZKill key) put all = subst (λ (m : Globals). AllByRecursion P (globals.entries m)) (sym (remove_is g key))
    (subst (AllByRecursion P) (sym (entries_kept g (λ x. not (eq_by_cmp key_cmp x key)))) (all_filter P (λ e. not (eq_by_cmp key_cmp e.0 key)) (globals.entries g) all))

put_all : (P : Key × List ℕ → Type 0) (k : Key) (v : List ℕ) (es : List (Key × List ℕ)) → P (k, v) → ((e : Key × List ℕ) → P e → P (e.0, v)) → AllByRecursion P es → AllByRecursion P (lists.put key_cmp k v es)
put_all P k v [] here kept all = (here, tt)
put_all P k v (e ∷ es) here kept all =
    elim (key_cmp k e.0) as (λ o. AllByRecursion P (lists.by_order o ((k, v) ∷ e ∷ es) ((e.0, v) ∷ es) (e ∷ lists.put key_cmp k v es))) [
      | Less ↦ (here, all)
      | Equal ↦ (kept e all.0, all.1)
      | Greater ↦ (all.0, put_all P k v es here kept all.1)
    ]

pub step_keys : (g : Globals) (u : Update) → IsUpdate u → HaveKeys g → HaveKeys (apply g u)
step_keys g u form all = keys_step (λ e. IsTrue (is_key e.0)) g u (λ k v is es every.
    let f : IsUpdate (Set k v) = subst IsUpdate is form in put_all (λ e. IsTrue (is_key e.0)) k v es f.0 (λ e h. h) every) all

pub step_values : (g : Globals) (u : Update) → IsUpdate u → HaveShortValues g → HaveShortValues (apply g u)
step_values g u form all = keys_step (λ e. length e.1 ≤ LONGEST_VALUE) g u (λ k v is es every.
    let f : IsUpdate (Set k v) = subst IsUpdate is form in put_all (λ e. length e.1 ≤ LONGEST_VALUE) k v es f.1 (λ e h. f.1) every) all
