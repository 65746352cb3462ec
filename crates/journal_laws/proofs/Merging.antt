-- Transactions from their parts.
use Rattle.std.proofs.Common.{◌≡◌, ◌≢◌, inl, inr, ℕ, zero, suc, ◌+◌, ◌<◌, ◌==◌, ◌&&◌, ◌||◌, not, Bool, true, false, List, [], ◌∷◌, ◌++◌, length, drop, filter, find, flat_map, Option, Some, None, is_some, refl, sym, ◌∙◌, ap, subst, arith, length-append, option_map, if◌then◌else◌}
use Rattle.std.proofs.lemmas.Bool.{cases_eq, cases_Bool}
use Rattle.std.proofs.lemmas.Bool.Decides.{nat_tests}
use Rattle.std.specs.List.{AllByRecursion, list_all}
use Rattle.std.specs.Option.{option_or, option_and_then}
use Rattle.global_defs.specs.declared.limits.TheConstants.{MOST_REGIONS}
use Rattle.global_defs.specs.Entry.{Update, Transaction, Stamp, Entry}
use Rattle.global_defs.specs.Serial.{entry_of}
use Rattle.journal_defs.specs.Journal.{Part, Item}
use Rattle.journal_defs.specs.Sequence.{in_mask, is_like, items_of, items_in, update_at, updates_from, updates_of, updates_by, REGIONS, entry_by, entry_among, entry_with}
use Rattle.journal_defs.specs.Growth.{AreNumbered, AreTidy}
use Rattle.journal_defs.specs.Split.{numbered, items_for, with_items, split, IsSplit}
use Rattle.journal_laws.proofs.EveryTarget.{eq_self}

-- the items of the regions, one region after another
abbrev joined : (Update → ℕ) → List Item → List ℕ → List Item
joined region xs rs = flat_map (λ r. filter (λ (x : Item). region x.update == r) xs) rs

-- how often a region stands among some
abbrev times : ℕ → List ℕ → ℕ
times k [] = 0
times k (r ∷ rs) = (if k == r then 1 else 0) + times k rs

once : (k : ℕ) → k < MOST_REGIONS → times k REGIONS ≡ 1
once zero low = refl
once (suc zero) low = refl
once (suc (suc zero)) low = refl
once (suc (suc (suc zero))) low = refl
once (suc (suc (suc (suc zero)))) low = refl
once (suc (suc (suc (suc (suc zero))))) low = refl
once (suc (suc (suc (suc (suc (suc zero)))))) low = refl
once (suc (suc (suc (suc (suc (suc (suc zero))))))) low = refl
once (suc (suc (suc (suc (suc (suc (suc (suc k)))))))) low = absurd (omega arith)

length_filter : (f : Item → Bool) (x : Item) (xs : List Item) → length (filter f (x ∷ xs)) ≡ (if f x then 1 else 0) + length (filter f xs)
length_filter f x xs = elim (cases_Bool (f x)) [ inl h ↦ rw h (omega arith) | inr h ↦ rw h (omega arith) ]

length_more : (region : Update → ℕ) (x : Item) (xs : List Item) (rs : List ℕ) → length (joined region (x ∷ xs) rs) ≡ times (region x.update) rs + length (joined region xs rs)
length_more region x xs [] = refl
length_more region x xs (r ∷ rs) =
    let f = λ (y : Item). region y.update == r in
    let one : ℕ = if region x.update == r then 1 else 0 in
    let a : length (filter f (x ∷ xs)) ≡ one + length (filter f xs) = length_filter f x xs in
    let b : length (joined region (x ∷ xs) rs) ≡ times (region x.update) rs + length (joined region xs rs) = length_more region x xs rs in
    let c : length (filter f (x ∷ xs) ++ joined region (x ∷ xs) rs) ≡ length (filter f (x ∷ xs)) + length (joined region (x ∷ xs) rs) = length-append (filter f (x ∷ xs)) (joined region (x ∷ xs) rs) in
    let d : length (filter f xs ++ joined region xs rs) ≡ length (filter f xs) + length (joined region xs rs) = length-append (filter f xs) (joined region xs rs) in
    omega arith

length_joined : (region : Update → ℕ) (us : List Update) (i : ℕ) → AllByRecursion (λ u. region u < MOST_REGIONS) us → length (joined region (numbered i us) REGIONS) ≡ length us
length_joined region [] i low = refl
length_joined region (u ∷ us) i low =
    let x : Item = record { position = i; update = u } in
    let a : length (joined region (x ∷ numbered (suc i) us) REGIONS) ≡ times (region u) REGIONS + length (joined region (numbered (suc i) us) REGIONS) = length_more region x (numbered (suc i) us) REGIONS in
    let b : times (region u) REGIONS ≡ 1 = once (region u) low.0 in
    let c : length (joined region (numbered (suc i) us) REGIONS) ≡ length us = length_joined region us (suc i) low.1 in
    a ∙ (omega arith)

-- the item at a position
abbrev at : ℕ → Item → Bool
at m x = x.position == m

find_append : (f : Item → Bool) (xs ys : List Item) → find f (xs ++ ys) ≡ option_or (find f xs) (find f ys)
find_append f [] ys = refl
find_append f (x ∷ xs) ys = elim (cases_Bool (f x)) [ inl h ↦ rw h refl | inr h ↦ rw h (find_append f xs ys) ]

find_before : (f : Item → Bool) (us : List Update) (i m : ℕ) → m < i → find (at m) (filter f (numbered i us)) ≡ None
find_before f [] i m low = refl
find_before f (u ∷ us) i m low =
    let x : Item = record { position = i; update = u } in
    let other : (i == m) ≡ false = grind (arith, nat_tests) in
    elim (cases_Bool (f x)) [
      | inl h ↦ rw (h, other) (find_before f us (suc i) m (omega arith))
      | inr h ↦ rw h (find_before f us (suc i) m (omega arith))
    ]

made : (x y : Item) (f : Item → Bool) → x ≡ y → f x ≡ true → Some x ≡ (if f y then Some y else None)
made x y f same h = let there : f y ≡ true = ap f (sym same) ∙ h in ap (λ (z : Item). Some z) same ∙ sym (ap (λ (b : Bool). if b then Some y else None) there)

unmade : (x y : Item) (f : Item → Bool) → x ≡ y → f x ≡ false → None ≡ (if f y then Some y else None)
unmade x y f same h = let there : f y ≡ false = ap f (sym same) ∙ h in sym (ap (λ (b : Bool). if b then Some y else None) there)

find_numbered : (f : Item → Bool) (us : List Update) (i j m : ℕ) (u : Update) (more : List Update) → m ≡ i + j → drop j us ≡ u ∷ more
    → find (at m) (filter f (numbered i us)) ≡ (if f (record { position = m; update = u }) then Some (record { position = m; update = u }) else None)
find_numbered f [] i zero m u more place is = let none : [] ≡ u ∷ more = is in cc
find_numbered f [] i (suc j) m u more place is = let none : [] ≡ u ∷ more = is in cc
find_numbered f (v ∷ us) i zero m u more place is =
    let first : v ≡ u = (let both : v ∷ us ≡ u ∷ more = is in cc) in
    let here : i ≡ m = omega arith in
    let x : Item = record { position = i; update = v } in
    let y : Item = record { position = m; update = u } in
    let same : x ≡ y = (λ d. record { position = here d; update = first d }) in
    let yes : (i == m) ≡ true = grind (arith, nat_tests) in
    elim (cases_Bool (f x)) [
      | inl h ↦ rw (h, yes) (made x y f same h)
      | inr h ↦ rw h (find_before f us (suc i) m (omega arith) ∙ unmade x y f same h)
    ]
find_numbered f (v ∷ us) i (suc j) m u more place is =
    let x : Item = record { position = i; update = v } in
    let other : (i == m) ≡ false = grind (arith, nat_tests) in
    let rest = find_numbered f us (suc i) j m u more (omega arith) is in
    elim (cases_Bool (f x)) [
      | inl h ↦ rw (h, other) rest
      | inr h ↦ rw h rest
    ]

find_joined : (region : Update → ℕ) (us : List Update) (j : ℕ) (u : Update) (more : List Update) (rs : List ℕ) → drop j us ≡ u ∷ more → 0 < times (region u) rs
    → find (at j) (joined region (numbered 0 us) rs) ≡ Some (record { position = j; update = u })
find_joined region us j u more [] is among = absurd (omega arith)
find_joined region us j u more (r ∷ rs) is among =
    let f = λ (y : Item). region y.update == r in
    let first = find_numbered f us 0 j j u more (omega arith) is in
    find_append (at j) (filter f (numbered 0 us)) (joined region (numbered 0 us) rs)
    ∙ ap (λ (o : Option Item). option_or o (find (at j) (joined region (numbered 0 us) rs))) first
    ∙ elim (cases_Bool (region u == r)) [
      | inl h ↦ rw h refl
      | inr h ↦ rw h (find_joined region us j u more rs is (let some = rw h at among in omega arith))
    ]

region_at : (region : Update → ℕ) (us : List Update) (j : ℕ) (u : Update) (more : List Update) → AllByRecursion (λ u. region u < MOST_REGIONS) us → drop j us ≡ u ∷ more → region u < MOST_REGIONS
region_at region [] zero u more low is = let none : [] ≡ u ∷ more = is in cc
region_at region [] (suc j) u more low is = let none : [] ≡ u ∷ more = is in cc
region_at region (v ∷ us) zero u more low is = let first : v ≡ u = (let both : v ∷ us ≡ u ∷ more = is in cc) in subst (λ (x : Update). region x < MOST_REGIONS) first low.0
region_at region (v ∷ us) (suc j) u more low is = region_at region us j u more low.1 is

updates_all : (items : List Item) (us : List Update) (i : ℕ) → ((j m : ℕ) (u : Update) (more : List Update) → m ≡ i + j → drop j us ≡ u ∷ more → update_at items m ≡ Some u)
    → updates_from items i (length us) ≡ Some us
updates_all items [] i each = refl
updates_all items (u ∷ us) i each =
    ap (λ (o : Option Update). option_and_then (λ v. option_map (λ vs. v ∷ vs) (updates_from items (suc i) (length us))) o) (each 0 i u us (omega arith) refl)
    ∙ ap (λ (o : Option (List Update)). option_map (λ vs. u ∷ vs) o) (updates_all items us (suc i) (λ j m v more place is. each (suc j) m v more (omega arith) is))

merged : (region : Update → ℕ) (us : List Update) → AllByRecursion (λ u. region u < MOST_REGIONS) us → updates_of (joined region (numbered 0 us) REGIONS) (length us) ≡ Some us
merged region us low =
    let items : List Item = joined region (numbered 0 us) REGIONS in
    let all : (length items == length us) ≡ true = (let same : length items ≡ length us = length_joined region us 0 low in grind (arith, nat_tests)) in
    ap (λ (b : Bool). if b then updates_from items 0 (length us) else None) all
    ∙ updates_all items us 0 (λ j m u more place is.
    let here : m ≡ j = omega arith in
    let among : times (region u) REGIONS ≡ 1 = once (region u) (region_at region us j u more low is) in
    ap (λ (k : ℕ). update_at items k) here ∙ ap (λ (o : Option Item). option_map (λ x. x.update) o) (find_joined region us j u more REGIONS is (omega arith)))

-- a part of a transaction
abbrev pub part_with : ℕ → ℕ → Transaction → List Item → Part
part_with n mask t xs = record { number = n; mask = mask; origin = t.origin; count = length t.updates; items = xs }

pub is_part : (n mask : ℕ) (t : Transaction) (xs : List Item) (p : Part) → with_items n mask t xs ≡ Some p → (ys : List Item) × (p ≡ part_with n mask t ys)
is_part n mask t [] p is = let none : None ≡ Some p = is in cc
is_part n mask t (x ∷ xs) p is = (x ∷ xs, (let same : Some (part_with n mask t (x ∷ xs)) ≡ Some p = is in cc))

pub numbers : (region : Update → ℕ) (n mask : ℕ) (t : Transaction) → AreNumbered n (split region n mask t)
numbers region n mask t r p is = let found = is_part n mask t (items_for region r t.updates) p is in ap (λ (q : Part). q.number) found.1

like_made : (n m mask : ℕ) (t : Transaction) (xs ys : List Item) → is_like (part_with n mask t xs) (Some (part_with m mask t ys)) ≡ true
like_made n m mask t xs ys = rw (eq_self mask, eq_self (length t.updates), eq_self t.origin.updater, eq_self t.origin.serial) refl

pub tidy : (region : Update → ℕ) (n mask : ℕ) (t : Transaction) → IsSplit region mask t → AreTidy (split region n mask t)
tidy region n mask t h = record {
  alike = λ r q p o is_p is_o.
      let a = is_part n mask t (items_for region r t.updates) p is_p in
      let b = is_part n mask t (items_for region q t.updates) o is_o in
      subst (λ (x : Part). is_like x (Some o) ≡ true) (sym a.1) (subst (λ (y : Part). is_like (part_with n mask t a.0) (Some y) ≡ true) (sym b.1) (like_made n n mask t a.0 b.0));
  within = λ r p is.
      let a = is_part n mask t (items_for region r t.updates) p is in
      ap (λ (x : Part). in_mask x.mask r) a.1 ∙ h.is_mask n r ∙ ap (λ (o : Option Part). is_some o) is;
}

items_here : (b : Bool) (n mask : ℕ) (t : Transaction) (xs : List Item) → b ≡ is_some (with_items n mask t xs) → (if b then items_of (with_items n mask t xs) else []) ≡ xs
items_here b n mask t [] h = ap (λ (c : Bool). if c then [] else []) h
items_here b n mask t (x ∷ xs) h = ap (λ (c : Bool). if c then x ∷ xs else []) h

items_all : (region : Update → ℕ) (n mask : ℕ) (t : Transaction) (rs : List ℕ) → IsSplit region mask t
    → flat_map (λ r. if in_mask mask r then items_of (split region n mask t r) else []) rs ≡ joined region (numbered 0 t.updates) rs
items_all region n mask t [] h = refl
items_all region n mask t (r ∷ rs) h =
    ap (λ (l : List Item). l ++ flat_map (λ r. if in_mask mask r then items_of (split region n mask t r) else []) rs) (items_here (in_mask mask r) n mask t (items_for region r t.updates) (h.is_mask n r))
    ∙ ap (λ (l : List Item). items_for region r t.updates ++ l) (items_all region n mask t rs h)

agrees : (b : Bool) (n mask : ℕ) (t : Transaction) (ys xs : List Item) → b ≡ is_some (with_items n mask t xs) → (not b || is_like (part_with n mask t ys) (with_items n mask t xs)) ≡ true
agrees b n mask t ys [] h = ap (λ (c : Bool). not c || false) h
agrees b n mask t ys (x ∷ xs) h = ap (λ (c : Bool). not b || c) (like_made n n mask t ys (x ∷ xs)) ∙ or_true (not b)
  where
    or_true : (c : Bool) → (c || true) ≡ true
    or_true true = refl
    or_true false = refl

all_agree : (region : Update → ℕ) (n mask : ℕ) (t : Transaction) (ys : List Item) (rs : List ℕ) → IsSplit region mask t
    → list_all (λ r. not (in_mask mask r) || is_like (part_with n mask t ys) (split region n mask t r)) rs ≡ true
all_agree region n mask t ys [] h = refl
all_agree region n mask t ys (r ∷ rs) h =
    ap (λ (b : Bool). b && list_all (λ r. not (in_mask mask r) || is_like (part_with n mask t ys) (split region n mask t r)) rs) (agrees (in_mask mask r) n mask t ys (items_for region r t.updates) (h.is_mask n r))
    ∙ all_agree region n mask t ys rs h

by_made : (region : Update → ℕ) (n mask : ℕ) (t : Transaction) (ys : List Item) → IsSplit region mask t → updates_by (split region n mask t) (part_with n mask t ys) ≡ Some t.updates
by_made region n mask t ys h =
    ap (λ (b : Bool). if b then updates_of (items_in mask (split region n mask t)) (length t.updates) else None) (all_agree region n mask t ys REGIONS h)
    ∙ ap (λ (l : List Item). updates_of l (length t.updates)) (items_all region n mask t REGIONS h) ∙ merged region t.updates h.regions

found_in : (f : Item → Bool) (xs : List Item) (x : Item) (n mask : ℕ) (t : Transaction) → find f xs ≡ Some x → (p : Part) × (with_items n mask t xs ≡ Some p)
found_in f [] x n mask t is = let none : None ≡ Some x = is in cc
found_in f (y ∷ xs) x n mask t is = (part_with n mask t (y ∷ xs), refl)

some_part : (region : Update → ℕ) (n mask : ℕ) (t : Transaction) (us : List Update) → us ≢ [] → AllByRecursion (λ u. region u < MOST_REGIONS) us
    → (k : ℕ) × (k < MOST_REGIONS) × (p : Part) × (with_items n mask t (items_for region k us) ≡ Some p)
some_part region n mask t [] some low = absurd (some refl)
some_part region n mask t (u ∷ us) some low =
    let k : ℕ = region u in
    let f = λ (x : Item). region x.update == k in
    let there = find_numbered f (u ∷ us) 0 0 0 u us (omega arith) refl in
    let yes : (k == k) ≡ true = eq_self k in
    let found = found_in (at 0) (items_for region k (u ∷ us)) (record { position = 0; update = u }) n mask t (there ∙ ap (λ (b : Bool). if b then Some (record { position = 0; update = u }) else None) yes) in
    (k, low.0, found.0, found.1)

-- each part by itself makes the transaction
by_part : (region : Update → ℕ) (n mask : ℕ) (t : Transaction) (stamp : Stamp) (r : ℕ) (p : Part) → IsSplit region mask t → split region n mask t r ≡ Some p
    → entry_by (split region n mask t) stamp p ≡ Some (record { stamp = stamp; transaction = t })
by_part region n mask t stamp r p h is =
    let made = is_part n mask t (items_for region r t.updates) p is in
    ap (entry_by (split region n mask t) stamp) made.1
    ∙ ap (λ (o : Option (List Update)). option_map (λ us. entry_of stamp t.origin.updater t.origin.serial us) o) (by_made region n mask t made.0 h)

among_parts : (region : Update → ℕ) (n mask : ℕ) (t : Transaction) (stamp : Stamp) (k : ℕ) (p : Part) (rs : List ℕ) → IsSplit region mask t
    → split region n mask t k ≡ Some p → 0 < times k rs → entry_among (split region n mask t) stamp rs ≡ Some (record { stamp = stamp; transaction = t })
among_parts region n mask t stamp k p [] h is among = absurd (omega arith)
among_parts region n mask t stamp k p (r ∷ rs) h is among =
    let part = split region n mask t in
    let goal : Option Entry → Type 0 = λ o. o ≡ Some (record { stamp = stamp; transaction = t }) in
    elim (cases_eq k r) [
      | inl same ↦
          let here = by_part region n mask t stamp k p h is in
          ap (λ (o : Option Part). option_or (option_and_then (λ p. entry_by part stamp p) o) (entry_among part stamp rs)) (ap part (sym same) ∙ is)
          ∙ ap (λ (o : Option Entry). option_or o (entry_among part stamp rs)) here
      | inr other ↦
          let differs : (k == r) ≡ false = grind (arith, nat_tests) in
          let more = among_parts region n mask t stamp k p rs h is (let some = rw differs at among in omega arith) in
          elim (part r) as (λ o. part r ≡ o → goal (option_or (option_and_then (λ p. entry_by part stamp p) o) (entry_among part stamp rs))) [
            | None ↦ λ none. more
            | Some x ↦ λ found. ap (λ (o : Option Entry). option_or o (entry_among part stamp rs)) (by_part region n mask t stamp r x h found)
          ] refl
    ]

pub entry : (region : Update → ℕ) (n mask : ℕ) (t : Transaction) (stamp : Stamp) → IsSplit region mask t
    → entry_with (split region n mask t) (Some stamp) ≡ Some (record { stamp = stamp; transaction = t })
entry region n mask t stamp h =
    let there = some_part region n mask t t.updates h.not_empty h.regions in
    among_parts region n mask t stamp there.0 there.2 REGIONS h there.3 (let among : times there.0 REGIONS ≡ 1 = once there.0 there.1 in omega arith)
