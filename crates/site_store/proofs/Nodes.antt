-- How many nodes stand after updates.
use Rattle.std.proofs.Common.{◌≡◌, inl, inr, ◌≤◌, ◌<◌, ◌+◌, ◌-◌, ℕ, zero, suc, Bool, true, false, List, [], ◌∷◌, length, map, take, get_or, refl, sym, ◌∙◌, ap, subst, arith}
use Rattle.std.specs.Prelude.{Option, Some, None, cond, not, fold, is_some}
use Rattle.std.specs.FinMap.{empty, entries, get, contains_key, find, insert, remove, retain_keys, len, len-entries, len-empty, len-insert, len-remove, get-entries, get-empty, get-remove, get-retain_keys, empty_of_len, same_map}
use Rattle.std.specs.Ordering.{eq_by_cmp}
use Rattle.std.specs.Cmp.{eq_by_cmp_equiv}
use Rattle.std.proofs.lemmas.List.{length-take, take_all}
use Rattle.std.proofs.lemmas.Bool.{cases_lt}
use Rattle.std.proofs.lemmas.List.Sums.{fold-append}
use Rattle.std.specs.List.{take-map}
use Rattle.global_defs.specs.declared.limits.TheConstants.{MOST_NODES}
use Rattle.global_defs.specs.Key.{Key, key_cmp}
use Rattle.global_defs.specs.Entry.{Update, Set, Kill, ZKill, Globals, apply, is_under}
use Rattle.global_defs.proofs.Order.{key_total, key_same}
use Rattle.site_store.specs.Site.{HasRoomFor}
use Rattle.tp_commit.proofs.Placing.{one_longer, length-map-of}

if_none : (b : Bool) (o : Option (List ℕ)) → cond b None o ≡ None → b ≡ false → o ≡ None
if_none false o e is = e
if_none true o e is = absurd (cc is)

removed_none : (b : Bool) (o p : Option (List ℕ)) → (o ≡ None → p ≡ None) → cond b None o ≡ None → cond b None p ≡ None
removed_none true o p h e = refl
removed_none false o p h e = h e

counted : (b : Bool) (a n : ℕ) → n ≡ cond b (a - 1) a → a ≤ n + 1
counted true a n e = omega (arith, e)
counted false a n e = omega (arith, e)

one_fewer : (a n : ℕ) (b : Bool) → b ≡ true → n ≡ cond b (a - 1) a → n ≡ a - 1
one_fewer a n true is e = e
one_fewer a n false is e = absurd (cc is)

empty_fewer : (m n : Globals) → len m ≡ 0 → ((q : Key) → get m q ≡ None → get n q ≡ None) → len n ≤ len m
empty_fewer m n size none =
    let m_is : m ≡ empty = empty_of_len m size in
    let n_is : n ≡ empty = same_map key_total key_same n empty (λ q. none q (ap (λ (x : Globals). get x q) m_is ∙ get-empty key_cmp q) ∙ sym (get-empty key_cmp q)) in
    let count : len n ≡ 0 = ap len n_is ∙ len-empty key_cmp (List ℕ) in
    omega (arith, count)

-- a map that has a value at no other key is no longer
fewer : (bound : ℕ) (m n : Globals) → len m ≤ bound → ((q : Key) → get m q ≡ None → get n q ≡ None) → len n ≤ len m
fewer zero m n low none = empty_fewer m n (omega (arith, low)) none
fewer (suc bound) m n low none = elim (entries m) as (λ es. entries m ≡ es → len n ≤ len m) [
  | [] ↦ λ is. empty_fewer m n (len-entries m ∙ ap length is) none
  | e ∷ es ↦ λ is.
      let k : Key = e.0 in
      let count : len m ≡ suc (length es) = len-entries m ∙ ap length is in
      let alike : eq_by_cmp key_cmp k k ≡ true = (eq_by_cmp_equiv key_total).refl k in
      let here : contains_key m k ≡ true = ap is_some (get-entries m k ∙ ap (find key_cmp k) is ∙ ap (λ (b : Bool). cond b (Some e.1) (find key_cmp k es)) alike) in
      let less : len (remove m k) ≡ len m - 1 = one_fewer (len m) (len (remove m k)) (contains_key m k) here (len-remove key_total m k) in
      let other : len n ≤ len (remove n k) + 1 = counted (contains_key n k) (len n) (len (remove n k)) (len-remove key_total n k) in
      let rest : len (remove n k) ≤ len (remove m k) = fewer bound (remove m k) (remove n k) (omega (arith, less, count, low)) (λ q gone.
      get-remove key_total n k q ∙ removed_none (eq_by_cmp key_cmp q k) (get m q) (get n q) (none q) (sym (get-remove key_total m k q) ∙ gone)) in
      omega (arith, count, less, other, rest)
] refl

only_more : (b : Bool) (a n : ℕ) → n ≡ cond b a (a + 1) → n ≤ a + 1
only_more true a n e = omega (arith, e)
only_more false a n e = omega (arith, e)

only_less : (b : Bool) (a n : ℕ) → n ≡ cond b (a - 1) a → n ≤ a + 1
only_less true a n e = omega (arith, e)
only_less false a n e = omega (arith, e)

passed_none : (b : Bool) (o : Option (List ℕ)) → o ≡ None → cond b o None ≡ None
passed_none true o e = e
passed_none false o e = refl

-- one update adds one node at most
one_update : (g : Globals) (u : Update) → len (apply g u) ≤ len g + 1
one_update g (Set key value) = only_more (contains_key g key) (len g) (len (insert g key value)) (len-insert key_total g key value)
one_update g (ZKill key) = only_less (contains_key g key) (len g) (len (remove g key)) (len-remove key_total g key)
one_update g (Kill key) =
    let less = fewer (len g) g (retain_keys g (λ k. not (is_under key k))) (omega arith) (λ q none.
    get-retain_keys g (λ k. not (is_under key k)) q (λ x tied. ap (λ (k : Key). not (is_under key k)) (sym (key_same q x tied))) ∙ passed_none (not (is_under key q)) (get g q) none) in
    omega (arith, less)

updates_more : (us : List Update) (g : Globals) → len (fold apply g us) ≤ len g + length us
updates_more [] g = omega arith
updates_more (u ∷ us) g = let first = one_update g u in let rest = updates_more us (apply g u) in omega (arith, first, rest)

pub few_updates : (g : Globals) (us : List Update) → len g + length us ≤ MOST_NODES → HasRoomFor g us
few_updates g us few k some =
    let more = updates_more (take k us) g in
    let size : length (take k us) ≤ length us = let e = length-take k us in omega (arith, e) in
    omega (arith, more, size, few)

-- the globals after one update more
pub one_step : {X : Type 0} (f : X → Update) (g : Globals) (xs : List X) (i : ℕ) (x : X) → i < length xs → x ≡ get_or xs i x → apply (fold apply g (map f (take i xs))) (f x) ≡ fold apply g (map f (take (i + 1) xs))
one_step f g xs i x h e = sym (fold-append apply g (map f (take i xs)) (f x ∷ [])) ∙ ap (fold apply g) (sym (one_longer f xs i x h e))

pub all_fit : {X : Type 0} (f : X → Update) (g : Globals) (xs : List X) (us : List Update) → map f xs ≡ us → 1 ≤ length us
    → ((k : ℕ) → 1 ≤ k → k ≤ length xs → len (fold apply g (map f (take k xs))) ≤ MOST_NODES) → HasRoomFor g us
all_fit f g xs us is some each k least = subst (λ (l : List Update). len (fold apply g (take k l)) ≤ MOST_NODES) is (elim (cases_lt k (length xs)) [
  | inl low ↦ subst (λ (l : List Update). len (fold apply g l) ≤ MOST_NODES) (sym (take-map f k xs)) (each k least (omega (arith, low)))
  | inr high ↦
      let whole : take k (map f xs) ≡ map f (take (length xs) xs) = take-map f k xs ∙ ap (map f) (take_all k xs high ∙ sym (take_all (length xs) xs (omega arith))) in
      let size : length us ≡ length xs = ap length (sym is) ∙ length-map-of f xs in
      subst (λ (l : List Update). len (fold apply g l) ≤ MOST_NODES) (sym whole) (each (length xs) (omega (arith, size, some)) (omega arith))
])

pub one_too_many : {X : Type 0} (f : X → Update) (g o : Globals) (xs : List X) (us : List Update) (i : ℕ) (x : X) → map f xs ≡ us → i < length xs → x ≡ get_or xs i x
    → o ≡ apply (fold apply g (map f (take i xs))) (f x) → MOST_NODES < len o → HasRoomFor g us → ⊥
one_too_many f g o xs us i x is h e after many room =
    let fits : len (fold apply g (take (i + 1) us)) ≤ MOST_NODES = room (i + 1) (omega arith) in
    let same : o ≡ fold apply g (take (i + 1) us) = after ∙ one_step f g xs i x h e ∙ ap (fold apply g) (sym (take-map f (i + 1) xs) ∙ ap (take (i + 1)) is) in
    let count : len o ≡ len (fold apply g (take (i + 1) us)) = ap len same in
    omega (arith, fits, count, many)
