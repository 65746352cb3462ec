-- Globals under changes, by what they answer.
use Rattle.std.proofs.Common.{◌≡◌, ℕ, zero, suc, ◌+◌, ◌-◌, ◌<◌, ◌≤◌, Bool, true, false, not, List, [], ◌∷◌, is_some, Option, Some, None, if◌then◌else◌, refl, sym, ap, ◌∙◌, true≢false, arith}
use Rattle.std.specs.declared.cmp.Ordering.TheVariants.{Less}
use Rattle.std.specs.Ordering.{is_lt, eq_by_cmp}
use Rattle.std.specs.List.{list_any}
use Rattle.std.specs.List as list
use Rattle.std.specs.FinMap as map
use Rattle.std.specs.FinMap.{get, keys, contains_key, find, entries, get-entries, get-empty, get-insert, get-remove, get-retain_keys, insert, remove, empty, same_map, len, len-insert, len-remove}
use Rattle.global_defs.specs.Key.{Key, key_cmp}
use Rattle.global_defs.specs.Entry.{Globals, is_under}
use Rattle.global_defs.specs.Evaluation.{is_below}
use Rattle.global_defs.proofs.Order.{key_total, key_same}
use Rattle.gvn_globals.specs.Walks.{tested, is_later, after, earlier}
use Rattle.gvn_globals.specs.Overlaid.{kept, with_all, overlaid}
use Rattle.gvn_globals.proofs.Basics.{before, same, behind, stands, less_of}
use Rattle.gvn_globals.proofs.Firsts.{Finds, find_finds, find_is, find_decided}
use Rattle.gvn_globals.proofs.Under.{below_behind, below_upward, below_is_later, later_is_behind}
use Rattle.gvn_globals.proofs.Found.{any_found}
use Rattle.gvn_globals.proofs.Subtree.{later_trans, later_of, later_name}

abbrev pub or_other : {A : Type 0} → Option A → Option A → Option A
or_other None other = other
or_other (Some x) other = Some x

pub get_with : (g : Globals) (es : List (Key × List ℕ)) (q : Key) → get (with_all g es) q ≡ or_other (find key_cmp q es) (get g q)
get_with g [] q = refl
get_with g (e ∷ es) q = get-insert key_total (with_all g es) e.0 e.1 q ∙ ap (λ o. if eq_by_cmp key_cmp q e.0 then Some e.1 else o) (get_with g es q) ∙ by (eq_by_cmp key_cmp q e.0)
  where
    by : (b : Bool) → (if b then Some e.1 else or_other (find key_cmp q es) (get g q)) ≡ or_other (if b then Some e.1 else find key_cmp q es) (get g q)
    by true = refl
    by false = refl

pub get_kept : (base gone : Globals) (q : Key) → get (kept base gone) q ≡ (if contains_key gone q then None else get base q)
get_kept base gone q = get-retain_keys base (λ k. not (contains_key gone k)) q (λ x e. ap (λ k. not (contains_key gone k)) (sym (key_same q x e))) ∙ by (contains_key gone q)
  where
    by : (b : Bool) → (if not b then get base q else None) ≡ (if b then None else get base q)
    by true = refl
    by false = refl

pub get_overlaid : (base sets gone : Globals) (q : Key) → get (overlaid base sets gone) q ≡ or_other (get sets q) (if contains_key gone q then None else get base q)
get_overlaid base sets gone q =
    get_with (kept base gone) (entries sets) q
    ∙ ap (λ o. or_other o (get (kept base gone) q)) (sym (get-entries sets q))
    ∙ ap (or_other (get sets q)) (get_kept base gone q)

pub get_set : (base sets gone : Globals) (q : Key) (x : List ℕ) → Some x ≡ get sets q → Some x ≡ get (overlaid base sets gone) q
get_set base sets gone q x e = sym (get_overlaid base sets gone q ∙ ap (λ o. or_other o (if contains_key gone q then None else get base q)) (sym e))

pub get_gone : (base sets gone : Globals) (q : Key) → None ≡ get sets q → contains_key gone q ≡ true → None ≡ get (overlaid base sets gone) q
get_gone base sets gone q e h = sym (get_overlaid base sets gone q ∙ ap (λ o. or_other o (if contains_key gone q then None else get base q)) (sym e) ∙ ap (λ b. if b then None else get base q) h)

pub get_below : (base sets gone : Globals) (q : Key) → None ≡ get sets q → contains_key gone q ≡ false → get base q ≡ get (overlaid base sets gone) q
get_below base sets gone q e h = sym (get_overlaid base sets gone q ∙ ap (λ o. or_other o (if contains_key gone q then None else get base q)) (sym e) ∙ ap (λ b. if b then None else get base q) h)

pub overlaid_new : (base : Globals) → overlaid base empty empty ≡ base
overlaid_new base = same_map key_total key_same (overlaid base empty empty) base (λ q.
    get_overlaid base empty empty q
    ∙ ap (λ o. or_other o (if contains_key (empty {X = List ℕ} {R = key_cmp}) q then None else get base q)) (get-empty key_cmp q)
    ∙ ap (λ o. if is_some o then None else get base q) (get-empty key_cmp q))

pub overlaid_set : (base sets gone : Globals) (k : Key) (v : List ℕ) → overlaid base (insert sets k v) gone ≡ insert (overlaid base sets gone) k v
overlaid_set base sets gone k v = same_map key_total key_same (overlaid base (insert sets k v) gone) (insert (overlaid base sets gone) k v) (λ q.
    get_overlaid base (insert sets k v) gone q
    ∙ ap (λ o. or_other o (if contains_key gone q then None else get base q)) (get-insert key_total sets k v q)
    ∙ by q (eq_by_cmp key_cmp q k)
    ∙ ap (λ o. if eq_by_cmp key_cmp q k then Some v else o) (sym (get_overlaid base sets gone q))
    ∙ sym (get-insert key_total (overlaid base sets gone) k v q))
  where
    by : (q : Key) (b : Bool) → or_other (if b then Some v else get sets q) (if contains_key gone q then None else get base q) ≡ (if b then Some v else or_other (get sets q) (if contains_key gone q then None else get base q))
    by q true = refl
    by q false = refl

pub overlaid_remove : (base sets gone : Globals) (k : Key) (v : List ℕ) → overlaid base (remove sets k) (insert gone k v) ≡ remove (overlaid base sets gone) k
overlaid_remove base sets gone k v = same_map key_total key_same (overlaid base (remove sets k) (insert gone k v)) (remove (overlaid base sets gone) k) (λ q.
    get_overlaid base (remove sets k) (insert gone k v) q
    ∙ ap (λ o. or_other o (if contains_key (insert gone k v) q then None else get base q)) (get-remove key_total sets k q)
    ∙ ap (λ o. or_other (if eq_by_cmp key_cmp q k then None else get sets q) (if is_some o then None else get base q)) (get-insert key_total gone k v q)
    ∙ by q (eq_by_cmp key_cmp q k)
    ∙ ap (λ o. if eq_by_cmp key_cmp q k then None else o) (sym (get_overlaid base sets gone q))
    ∙ sym (get-remove key_total (overlaid base sets gone) k q))
  where
    by : (q : Key) (b : Bool) → or_other (if b then None else get sets q) (if is_some (if b then Some v else get gone q) then None else get base q) ≡ (if b then None else or_other (get sets q) (if contains_key gone q then None else get base q))
    by q true = refl
    by q false = refl

-- how many nodes there are afterwards
pub len_set : (g : Globals) (k : Key) (v : List ℕ) (b : Bool) → contains_key g k ≡ b → len (insert g k v) ≡ (if b then len g else len g + 1)
len_set g k v b e = len-insert key_total g k v ∙ ap (λ b. if b then len g else len g + 1) e

pub len_less : (g : Globals) (k : Key) (b : Bool) → contains_key g k ≡ b → (n : ℕ) → n ≡ (if b then 1 else 0) → (n ≤ len g) × (len (remove g k) ≡ len g - n)
len_less g k true e n is =
    let some : 0 < len g = some_len g k e in
    (omega arith, len-remove key_total g k ∙ ap (λ b. if b then len g - 1 else len g) e ∙ omega arith)
  where
    some_len : (g : Globals) (k : Key) → contains_key g k ≡ true → 0 < len g
    some_len g k e = by (len g) refl
      where
        by : (n : ℕ) → len g ≡ n → 0 < n
        by zero z = absurd (true≢false (sym e ∙ ap (λ m. contains_key m k) (map.empty_of_len g z) ∙ ap is_some (get-empty key_cmp k)))
        by (suc n) z = omega arith
len_less g k false e n is = (omega arith, len-remove key_total g k ∙ ap (λ b. if b then len g - 1 else len g) e ∙ omega arith)

module _ (base sets gone o : Globals) (is : overlaid base sets gone ≡ o) (k : Key) (v : List ℕ) (n known : ℕ) (count : n ≡ len (overlaid base sets gone)) (knows : known ≡ (if contains_key o k then 1 else 0)) where
  pub nodes_set : n + (1 - known) ≡ len (overlaid base (insert sets k v) gone)
  nodes_set = by (contains_key o k) refl
    where
      by : (b : Bool) → contains_key o k ≡ b → n + (1 - known) ≡ len (overlaid base (insert sets k v) gone)
      by true e =
          let all : len (overlaid base (insert sets k v) gone) ≡ len o = ap len (overlaid_set base sets gone k v ∙ ap (λ m. insert m k v) is) ∙ len_set o k v true e in
          let one : known ≡ 1 = knows ∙ ap (λ b. if b then 1 else 0) e in
          omega (arith, count, ap len is)
      by false e =
          let all : len (overlaid base (insert sets k v) gone) ≡ len o + 1 = ap len (overlaid_set base sets gone k v ∙ ap (λ m. insert m k v) is) ∙ len_set o k v false e in
          let none : known ≡ 0 = knows ∙ ap (λ b. if b then 1 else 0) e in
          omega (arith, count, ap len is)

  pub nodes_removed : (known ≤ n) × (n - known ≡ len (overlaid base (remove sets k) (insert gone k v)))
  nodes_removed =
      let less = len_less o k (contains_key o k) refl known knows in
      let all : len (overlaid base (remove sets k) (insert gone k v)) ≡ len (remove o k) = ap len (overlaid_remove base sets gone k v ∙ ap (λ m. remove m k) is) in
      (omega (arith, less.0, count, ap len is), omega (arith, less.1, count, ap len is))

-- ---- the first node that isn't gone

module _ (base gone : Globals) where
  pub none_kept : (k : Key) → get base k ≡ None → get (kept base gone) k ≡ None
  none_kept k n = get_kept base gone k ∙ ap (λ o. if contains_key gone k then None else o) n ∙ by (contains_key gone k)
    where
      by : (b : Bool) → ◌≡◌ {A = Option (List ℕ)} (if b then None else None) None
      by true = refl
      by false = refl

  pub gone_kept : (k : Key) → contains_key gone k ≡ true → get (kept base gone) k ≡ None
  gone_kept k e = get_kept base gone k ∙ ap (λ b. if b then None else get base k) e

  still_kept : (k : Key) → contains_key gone k ≡ false → get (kept base gone) k ≡ get base k
  still_kept k e = get_kept base gone k ∙ ap (λ b. if b then None else get base k) e

  abbrev pub Passed : Key → Option Key → Type 0
  Passed key found = Finds key_cmp (get (kept base gone)) (get base) (is_later key) found

  pub record IsPassed (key : Key) (found : Option Key) : Type 0 where
    pub finds : Passed key found

  pub passes_first : (key : Key) → IsPassed key (after base key)
  passes_first key = record { finds = by (after base key) (find_finds key_total key_same base (is_later key)) }
    where
      by : (r : Option Key) → Finds key_cmp (get base) (get base) (is_later key) r → Passed key r
      by None f = λ j h. none_kept j (f j h)
      by (Some k) f = record { passes = f.passes; here = f.here; least = λ j h c. none_kept j (f.least j h c) }

  pub passes_gone : (key node : Key) → IsPassed key (Some node) → contains_key gone node ≡ true → IsPassed key (after base node)
  passes_gone key node p e = record { finds = by (after base node) (find_finds key_total key_same base (is_later node)) }
    where
      low : (j : Key) → is_later key j ≡ true → (is_later node j ≡ true → get base j ≡ None) → get (kept base gone) j ≡ None
      low j h none = elim (stands key_total key_same j node) [
        | before c ↦ p.finds.least j h c
        | same i ↦ gone_kept j (ap (contains_key gone) i ∙ e)
        | behind c ↦ none_kept j (none (later_of key node j (later_name key node p.finds.passes) (later_name key j h) c))
      ]

      by : (r : Option Key) → Finds key_cmp (get base) (get base) (is_later node) r → Passed key r
      by None f = λ j h. low j h (λ l. f j l)
      by (Some k) f = record { passes = later_trans key node k p.finds.passes f.passes; here = f.here; least = λ j h c. low j h (λ l. f.least j l c) }

  pub passed_kept : (key node : Key) → IsPassed key (Some node) → contains_key gone node ≡ false → Some node ≡ after (kept base gone) key
  passed_kept key node p e = sym (find_is key_total key_same (kept base gone) (is_later key) (Some node)
      (record { passes = p.finds.passes; here = ap is_some (still_kept node e) ∙ p.finds.here; least = p.finds.least }))

  pub passed_all : (key : Key) → IsPassed key None → None ≡ after (kept base gone) key
  passed_all key p = sym (find_is key_total key_same (kept base gone) (is_later key) None p.finds)

  -- the first of both
  module _ (sets : Globals) (p : Key → Bool) where
    from_parts : (j : Key) → get sets j ≡ None → get (kept base gone) j ≡ None → get (overlaid base sets gone) j ≡ None
    from_parts j a b = get_with (kept base gone) (entries sets) j ∙ ap (λ o. or_other o (get (kept base gone) j)) (sym (get-entries sets j) ∙ a) ∙ b

    here_set : (j : Key) → is_some (get sets j) ≡ true → is_some (get (overlaid base sets gone) j) ≡ true
    here_set j s = ap is_some (get_with (kept base gone) (entries sets) j ∙ ap (λ o. or_other o (get (kept base gone) j)) (sym (get-entries sets j))) ∙ by (get sets j) s
      where
        by : (o : Option (List ℕ)) → is_some o ≡ true → is_some (or_other o (get (kept base gone) j)) ≡ true
        by None s = absurd (true≢false (sym s))
        by (Some x) s = refl

    here_kept : (j : Key) → is_some (get (kept base gone) j) ≡ true → is_some (get (overlaid base sets gone) j) ≡ true
    here_kept j s = ap is_some (get_with (kept base gone) (entries sets) j ∙ ap (λ o. or_other o (get (kept base gone) j)) (sym (get-entries sets j))) ∙ by (get sets j)
      where
        by : (o : Option (List ℕ)) → is_some (or_other o (get (kept base gone) j)) ≡ true
        by None = s
        by (Some x) = refl

    joined : (a b : Option Key) → Finds key_cmp (get sets) (get sets) p a → Finds key_cmp (get (kept base gone)) (get (kept base gone)) p b
        → Finds key_cmp (get (overlaid base sets gone)) (get (overlaid base sets gone)) p (earlier a b)
    joined None None f g = λ j h. from_parts j (f j h) (g j h)
    joined None (Some k) f g = record { passes = g.passes; here = here_kept k g.here; least = λ j h c. from_parts j (f j h) (g.least j h c) }
    joined (Some k) None f g = record { passes = f.passes; here = here_set k f.here; least = λ j h c. from_parts j (f.least j h c) (g j h) }
    joined (Some k) (Some m) f g = by (is_lt (key_cmp m k)) refl
      where
        above : (j : Key) → is_lt (key_cmp m k) ≡ false → key_cmp j k ≡ Less → key_cmp j m ≡ Less
        above j e c = elim (stands key_total key_same k m) [
          | before d ↦ key_total.trans j k m c d
          | same i ↦ ap (key_cmp j) (sym i) ∙ c
          | behind d ↦ absurd (true≢false (sym (ap is_lt d) ∙ e))
        ]

        by : (b : Bool) → is_lt (key_cmp m k) ≡ b → Finds key_cmp (get (overlaid base sets gone)) (get (overlaid base sets gone)) p (if b then Some m else Some k)
        by true e = record { passes = g.passes; here = here_kept m g.here; least = λ j h c. from_parts j (f.least j h (key_total.trans j m k c (less_of (key_cmp m k) e))) (g.least j h c) }
        by false e = record { passes = f.passes; here = here_set k f.here; least = λ j h c. from_parts j (f.least j h c) (g.least j h (above j e c)) }

    pub find_joined : earlier (list.find p (keys sets)) (list.find p (keys (kept base gone))) ≡ list.find p (keys (overlaid base sets gone))
    find_joined = sym (find_is key_total key_same (overlaid base sets gone) p (earlier (list.find p (keys sets)) (list.find p (keys (kept base gone))))
        (joined (list.find p (keys sets)) (list.find p (keys (kept base gone))) (find_finds key_total key_same sets p) (find_finds key_total key_same (kept base gone) p)))

-- the first node of the name past a key tells whether there are descendants
pub below_after : (g : Globals) (key : Key) → is_some (tested (is_under key) (after g key)) ≡ list_any (is_below key) (keys g)
below_after g key =
    ap is_some (alike (after g key) (find_finds key_total key_same g (is_later key))
    ∙ sym (find_decided key_total key_same g (is_later key) (is_below key) (λ k s q. below_is_later key k q) (λ a b s t p q c. below_upward key a b (later_is_behind key a p) q c)))
    ∙ any_found (is_below key) (keys g)
  where
    alike : (o : Option Key) → Finds key_cmp (get g) (get g) (is_later key) o → tested (is_under key) o ≡ tested (is_below key) o
    alike None f = refl
    alike (Some k) f = ap (λ b. if b then Some k else None) (sym (below_behind key k (later_is_behind key k f.passes)))
