-- A walk over the nodes at and below one, and globals without them.
use Rattle.std.proofs.Common.{◌≡◌, ℕ, suc, ◌+◌, ◌<◌, ◌≤◌, Bool, true, false, not, ◌&&◌, ◌||◌, List, [], ◌∷◌, ◌++◌, length, take, get_or, is_some, Option, Some, None, if◌then◌else◌, refl, sym, ap, subst, ◌∙◌, true≢false, arith}
use Rattle.std.specs.declared.cmp.Ordering.TheVariants.{Less, Equal}
use Rattle.std.specs.Ordering.{is_lt, is_eq, nat_cmp, eq_by_cmp}
use Rattle.std.specs.Cmp.{first_so, second_so}
use Rattle.std.specs.Cmp.Lexicographic.{slice_cmp, nat_list_cmp_total}
use Rattle.std.proofs.lemmas.Cmp.{tied_itself}
use Rattle.std.proofs.lemmas.List.{take_more}
use Rattle.std.specs.List.{list_any, list_all, filter}
use Rattle.std.specs.FinMap.{get, keys, contains_key, contains_key-keys, same_map, retain_keys, get-retain_keys, remove, get-remove}
use Rattle.std.specs.List.{starts_with}
use Rattle.global_defs.specs.Key.{Key, Sub, key_cmp, sub_cmp}
use Rattle.global_defs.specs.Entry.{Globals, is_under}
use Rattle.global_defs.proofs.Order.{key_total, key_same, sub_total}
use Rattle.gvn_globals.specs.Walks.{is_later, after, is_behind, IsSubtree}
use Rattle.gvn_globals.proofs.Basics.{before, same, behind, stands, less_of, equal_of, both}
use Rattle.gvn_globals.proofs.Firsts.{Finds, find_finds}
use Rattle.gvn_globals.proofs.Under.{names_tie, under_not_before, under_between, behind_not_before, later_is_behind}

abbrev pub is_listed : List Key → Key → Bool
is_listed ks k = list_any (eq_by_cmp key_cmp k) ks

pub any_push : (p : Key → Bool) (ks : List Key) (k : Key) → list_any p (ks ++ k ∷ []) ≡ (list_any p ks || p k)
any_push p [] k = by (p k)
  where
    by : (b : Bool) → (b || false) ≡ b
    by true = refl
    by false = refl
any_push p (j ∷ ks) k = by (p j) (any_push p ks k)
  where
    by : (b : Bool) → list_any p (ks ++ k ∷ []) ≡ (list_any p ks || p k) → (b || list_any p (ks ++ k ∷ [])) ≡ ((b || list_any p ks) || p k)
    by true m = refl
    by false m = m

all_push : (p : Key → Bool) (ks : List Key) (k : Key) → list_all p ks ≡ true → p k ≡ true → list_all p (ks ++ k ∷ []) ≡ true
all_push p [] k h t = both (p k) true t refl
all_push p (j ∷ ks) k h t = both (p j) (list_all p (ks ++ k ∷ [])) (first_so (p j) (list_all p ks) h) (all_push p ks k (second_so (p j) (list_all p ks) h) t)

listed_before : (ks : List Key) (k j : Key) → is_listed ks j ≡ true → is_listed (ks ++ k ∷ []) j ≡ true
listed_before ks k j h = any_push (eq_by_cmp key_cmp j) ks k ∙ ap (λ b. b || eq_by_cmp key_cmp j k) h

listed_last : (ks : List Key) (k : Key) → is_listed (ks ++ k ∷ []) k ≡ true
listed_last ks k = any_push (eq_by_cmp key_cmp k) ks k ∙ ap (λ r. list_any (eq_by_cmp key_cmp k) ks || is_eq r) (tied_itself key_total k) ∙ or_true (list_any (eq_by_cmp key_cmp k) ks)
  where
    or_true : (b : Bool) → (b || true) ≡ true
    or_true true = refl
    or_true false = refl

-- keys of one name, one behind the other
pub later_of : (top j k : Key) → slice_cmp nat_cmp top.name j.name ≡ Equal → slice_cmp nat_cmp top.name k.name ≡ Equal → key_cmp j k ≡ Less → is_later j k ≡ true
later_of top j k p q c = both (eq_by_cmp (slice_cmp nat_cmp) j.name k.name) (is_behind j k) (ap is_eq (sym (nat_list_cmp_total.congr top.name j.name k.name p) ∙ q)) (ap is_lt c)

pub later_name : (key k : Key) → is_later key k ≡ true → slice_cmp nat_cmp key.name k.name ≡ Equal
later_name key k h = equal_of (slice_cmp nat_cmp key.name k.name) (first_so (eq_by_cmp (slice_cmp nat_cmp) key.name k.name) (is_behind key k) h)

pub later_less : (key k : Key) → is_later key k ≡ true → key_cmp key k ≡ Less
later_less key k h = less_of (key_cmp key k) (later_is_behind key k h)

pub later_trans : (top j k : Key) → is_later top j ≡ true → is_later j k ≡ true → is_later top k ≡ true
later_trans top j k p q =
    let c : key_cmp top k ≡ Less = key_total.trans top j k (later_less top j p) (later_less j k q) in
    both (eq_by_cmp (slice_cmp nat_cmp) top.name k.name) (is_behind top k)
    (ap is_eq (nat_list_cmp_total.congr top.name j.name k.name (later_name top j p) ∙ later_name j k q)) (ap is_lt c)

module _ (g : Globals) (top : Key) where
  absent : (k : Key) → contains_key g k ≡ true → get g k ≡ None → ⊥
  absent k s n = true≢false (sym s ∙ ap is_some n)

  -- the nodes before the one that was found are listed, all where none was
  abbrev pub Reached : List Key → Option Key → Type 0
  Reached ks None = (k : Key) → is_under top k ≡ true → contains_key g k ≡ true → is_listed ks k ≡ true
  Reached ks (Some at) = (is_later top at ≡ true) × ((k : Key) → is_under top k ≡ true → contains_key g k ≡ true → key_cmp k at ≡ Less → is_listed ks k ≡ true)

  pub record IsWalked (ks : List Key) (found : Option Key) : Type 0 where
    pub under : list_all (is_under top) ks ≡ true
    pub reached : Reached ks found

  pub begins : (ks : List Key) → list_all (is_under top) ks ≡ true → (contains_key g top ≡ true → is_listed ks top ≡ true) → IsWalked ks (after g top)
  begins ks under own = record { under = under; reached = by (after g top) (find_finds key_total key_same g (is_later top)) }
    where
      at_top : (k : Key) → is_under top k ≡ true → contains_key g k ≡ true → (key_cmp top k ≡ Less → get g k ≡ None) → is_listed ks k ≡ true
      at_top k u s none = elim (stands key_total key_same top k) [
        | before c ↦ absurd (absent k s (none c))
        | same e ↦ ap (is_listed ks) (sym e) ∙ own (ap (contains_key g) e ∙ s)
        | behind c ↦ absurd (true≢false (sym (ap is_lt c) ∙ under_not_before top k u))
      ]

      later : (k : Key) → is_under top k ≡ true → key_cmp top k ≡ Less → is_later top k ≡ true
      later k u c = both (eq_by_cmp (slice_cmp nat_cmp) top.name k.name) (is_behind top k) (ap is_eq (names_tie top k u)) (ap is_lt c)

      by : (r : Option Key) → Finds key_cmp (get g) (get g) (is_later top) r → Reached ks r
      by None f = λ k u s. at_top k u s (λ c. f k (later k u c))
      by (Some at) f = (f.passes, λ k u s d. at_top k u s (λ c. f.least k (later k u c) d))

  pub begins_empty : contains_key g top ≡ false → IsWalked [] (after g top)
  begins_empty none = begins [] refl (λ s. absurd (true≢false (sym s ∙ none)))

  pub begins_here : IsWalked (top ∷ []) (after g top)
  begins_here = begins (top ∷ []) (both (is_under top top) true under_itself refl) (λ s. ap (λ r. is_eq r || false) (tied_itself key_total top))
    where
      begun : (xs : List Sub) → starts_with (eq_by_cmp sub_cmp) xs xs ≡ true
      begun [] = refl
      begun (x ∷ xs) = both (eq_by_cmp sub_cmp x x) (starts_with (eq_by_cmp sub_cmp) xs xs) (ap is_eq (tied_itself sub_total x)) (begun xs)

      under_itself : is_under top top ≡ true
      under_itself = both (eq_by_cmp (slice_cmp nat_cmp) top.name top.name) (starts_with (eq_by_cmp sub_cmp) top.subs top.subs) (ap is_eq (tied_itself nat_list_cmp_total top.name)) (begun top.subs)

  pub goes : (ks : List Key) (at : Key) → IsWalked ks (Some at) → is_under top at ≡ true → IsWalked (ks ++ at ∷ []) (after g at)
  goes ks at w u = record { under = all_push (is_under top) ks at w.under u; reached = by (after g at) (find_finds key_total key_same g (is_later at)) }
    where
      from : (k : Key) → is_under top k ≡ true → contains_key g k ≡ true → (is_later at k ≡ true → get g k ≡ None) → is_listed (ks ++ at ∷ []) k ≡ true
      from k v s none = elim (stands key_total key_same k at) [
        | before c ↦ listed_before ks at k (w.reached.1 k v s c)
        | same e ↦ ap (is_listed (ks ++ at ∷ [])) e ∙ listed_last ks at
        | behind c ↦ absurd (absent k s (none (later_of top at k (names_tie top at u) (names_tie top k v) c)))
      ]

      by : (r : Option Key) → Finds key_cmp (get g) (get g) (is_later at) r → Reached (ks ++ at ∷ []) r
      by None f = λ k v s. from k v s (λ l. f k l)
      by (Some next) f = (later_trans top at next w.reached.0 f.passes, λ k v s d. from k v s (λ l. f.least k l d))

  pub ends : (ks : List Key) (at : Key) → IsWalked ks (Some at) → is_under top at ≡ false → IsSubtree g top ks
  ends ks at w none = record { under = w.under; whole = λ k u s. all k u s }
    where
      all : (k : Key) → is_under top k ≡ true → contains_key g k ≡ true → is_listed ks k ≡ true
      all k u s = elim (stands key_total key_same k at) [
        | before c ↦ w.reached.1 k u s c
        | same e ↦ absurd (true≢false (sym u ∙ ap (is_under top) e ∙ none))
        | behind c ↦ absurd (true≢false (sym (under_between top at k (behind_not_before top at (later_is_behind top at w.reached.0)) c u) ∙ none))
      ]

  pub ends_none : (ks : List Key) → IsWalked ks None → IsSubtree g top ks
  ends_none ks w = record { under = w.under; whole = w.reached }

-- how far a walk has to go
abbrev pub left : Globals → Option Key → ℕ
left g None = 0
left g (Some at) = suc (length (filter (is_later at) (keys g)))

pub fewer : (p q : Key → Bool) → ((k : Key) → p k ≡ true → q k ≡ true) → (ks : List Key) → length (filter p ks) ≤ length (filter q ks)
fewer p q within [] = omega arith
fewer p q within (k ∷ ks) = by (p k) (q k) (within k) (fewer p q within ks)
  where
    by : (a b : Bool) → (a ≡ true → b ≡ true) → length (filter p ks) ≤ length (filter q ks) → length (if a then k ∷ filter p ks else filter p ks) ≤ length (if b then k ∷ filter q ks else filter q ks)
    by true true w m = omega arith
    by true false w m = absurd (true≢false (sym (w refl)))
    by false true w m = omega arith
    by false false w m = m

one_fewer : (p q : Key → Bool) → ((k : Key) → p k ≡ true → q k ≡ true) → (n : Key) → q n ≡ true → p n ≡ false → (ks : List Key) → is_listed ks n ≡ true → length (filter p ks) < length (filter q ks)
one_fewer p q within n t f [] h = absurd (true≢false (sym h))
one_fewer p q within n t f (k ∷ ks) h = by (eq_by_cmp key_cmp n k) refl h (fewer p q within ks) (one_fewer p q within n t f ks)
  where
    by_tests : (a b : Bool) → (a ≡ true → b ≡ true) → length (filter p ks) < length (filter q ks) → length (if a then k ∷ filter p ks else filter p ks) < length (if b then k ∷ filter q ks else filter q ks)
    by_tests true true w m = omega arith
    by_tests true false w m = absurd (true≢false (sym (w refl)))
    by_tests false true w m = omega arith
    by_tests false false w m = m

    by : (b : Bool) → eq_by_cmp key_cmp n k ≡ b → (b || is_listed ks n) ≡ true → length (filter p ks) ≤ length (filter q ks) → (is_listed ks n ≡ true → length (filter p ks) < length (filter q ks))
        → length (if p k then k ∷ filter p ks else filter p ks) < length (if q k then k ∷ filter q ks else filter q ks)
    by true e h m more =
        let is : n ≡ k = key_same n k (equal_of (key_cmp n k) e) in
        rw (sym (ap p is) ∙ f, sym (ap q is) ∙ t) (omega arith)
    by false e h m more = by_tests (p k) (q k) (within k) (more h)

pub walk_smaller : (g : Globals) (at : Key) → left g (after g at) < left g (Some at)
walk_smaller g at = by (after g at) (find_finds key_total key_same g (is_later at))
  where
    not_itself : (k : Key) → is_later k k ≡ false
    not_itself k = ap (λ r. eq_by_cmp (slice_cmp nat_cmp) k.name k.name && is_lt r) (tied_itself key_total k) ∙ none (eq_by_cmp (slice_cmp nat_cmp) k.name k.name)
      where
        none : (b : Bool) → (b && false) ≡ false
        none true = refl
        none false = refl

    by : (r : Option Key) → Finds key_cmp (get g) (get g) (is_later at) r → left g r < left g (Some at)
    by None f = omega arith
    by (Some next) f =
        let less : length (filter (is_later next) (keys g)) < length (filter (is_later at) (keys g)) =
        one_fewer (is_later next) (is_later at) (λ k h. later_trans at next k f.passes h) next f.passes (not_itself next) (keys g) (sym (contains_key-keys g next) ∙ f.here) in
        omega arith

-- globals without these keys
pub record IsWithout (g : Globals) (ks : List Key) (now : Globals) : Type 0 where
  pub answers : (k : Key) → get now k ≡ (if is_listed ks k then None else get g k)

pub without_none : (g : Globals) → IsWithout g [] g
without_none g = record { answers = λ k. refl }

pub without_more : (g : Globals) (ks : List Key) (j : Key) (now : Globals) → IsWithout g ks now → IsWithout g (ks ++ j ∷ []) (remove now j)
without_more g ks j now w = record {
  answers = λ k.
      get-remove key_total now j k
      ∙ ap (λ o. if eq_by_cmp key_cmp k j then None else o) (w.answers k)
      ∙ turned (eq_by_cmp key_cmp k j) (is_listed ks k) (get g k)
      ∙ ap (λ b. if b then None else get g k) (sym (any_push (eq_by_cmp key_cmp k) ks j));
}
  where
    turned : {X : Type 0} (a b : Bool) (o : Option X) → (if a then None else (if b then None else o)) ≡ (if b || a then None else o)
    turned true true o = refl
    turned true false o = refl
    turned false true o = refl
    turned false false o = refl

-- the next one in a list goes
pub without_next : (g : Globals) (ks : List Key) (i : ℕ) (j : Key) (now : Globals) → i < length ks → j ≡ get_or ks i j → IsWithout g (take i ks) now → IsWithout g (take (i + 1) ks) (remove now j)
without_next g ks i j now h e w = subst (λ l. IsWithout g l (remove now j)) (ap (λ x. take i ks ++ x ∷ []) e ∙ sym (take_more ks i j h)) (without_more g (take i ks) j now w)

-- without a whole subtree
pub without_subtree : (g : Globals) (top : Key) (ks : List Key) (now : Globals) → IsSubtree g top ks → IsWithout g ks now → now ≡ retain_keys g (λ k. not (is_under top k))
without_subtree g top ks now sub w = same_map key_total key_same now (retain_keys g (λ k. not (is_under top k))) (λ k.
    w.answers k ∙ by k (is_under top k) (is_listed ks k) refl refl
    ∙ sym (get-retain_keys g (λ k. not (is_under top k)) k (λ x e. ap (λ y. not (is_under top y)) (sym (key_same k x e)))))
  where
    unlisted : (ks : List Key) (k : Key) → list_all (is_under top) ks ≡ true → is_under top k ≡ false → is_listed ks k ≡ false
    unlisted [] k h f = refl
    unlisted (j ∷ ks) k h f = by_tie (eq_by_cmp key_cmp k j) refl (unlisted ks k (second_so (is_under top j) (list_all (is_under top) ks) h) f)
      where
        by_tie : (b : Bool) → eq_by_cmp key_cmp k j ≡ b → is_listed ks k ≡ false → (b || is_listed ks k) ≡ false
        by_tie true e m = absurd (true≢false (sym (ap (is_under top) (key_same k j (equal_of (key_cmp k j) e)) ∙ first_so (is_under top j) (list_all (is_under top) ks) h) ∙ f))
        by_tie false e m = m

    gone : (k : Key) → is_under top k ≡ true → is_listed ks k ≡ false → (o : Option (List ℕ)) → get g k ≡ o → o ≡ None
    gone k u l None e = refl
    gone k u l (Some x) e = absurd (true≢false (sym (sub.whole k u (ap is_some e)) ∙ l))

    by : (k : Key) (u l : Bool) → is_under top k ≡ u → is_listed ks k ≡ l → (if l then None else get g k) ≡ (if not u then get g k else None)
    by k true true e d = refl
    by k true false e d = gone k e d (get g k) refl
    by k false true e d = absurd (true≢false (sym d ∙ unlisted ks k sub.under e))
    by k false false e d = refl
