-- Nodes that are gone, with the ends up to which all are gone.
use Rattle.std.proofs.Common.{◌≡◌, ℕ, zero, suc, ◌<◌, ◌≤◌, Bool, true, false, not, List, [], ◌∷◌, length, get_or, is_some, Option, Some, None, if◌then◌else◌, refl, sym, ap, subst, ◌∙◌, true≢false, arith}
use Rattle.std.specs.Prelude.{Result, Ok, Err, OnOk, OnErr}
use Rattle.std.specs.declared.cmp.Ordering.{Ordering}
use Rattle.std.specs.declared.cmp.Ordering.TheVariants.{Less, Equal, Greater}
use Rattle.std.specs.Ordering.{is_lt, is_eq, nat_cmp, eq_by_cmp}
use Rattle.std.specs.Cmp.{first_so, second_so}
use Rattle.std.specs.Cmp.Lexicographic.{slice_cmp, nat_list_cmp_total}
use Rattle.std.specs.List.{flat_map, list_all, filter}
use Rattle.std.specs.FinMap.{get, keys, contains_key, get-empty, get-insert, get-retain_keys, insert, empty, retain_keys, same_map, len}
use Rattle.std.proofs.lemmas.Cmp.{tied_itself}
use Rattle.std.proofs.Math.ListN.{length-append}
use Rattle.global_defs.specs.Key.{Key, key_cmp}
use Rattle.global_defs.specs.Encoded.{encoded, encoded_sub}
use Rattle.global_defs.specs.Entry.{Globals, is_under}
use Rattle.global_defs.specs.Valid.{is_key}
use Rattle.global_defs.proofs.Order.{key_total, key_same}
use Rattle.global_defs.proofs.KeyOrder.{key_ordered}
use Rattle.gvn_globals.specs.Walks.{is_later, after}
use Rattle.gvn_globals.specs.Overlaid.{kept, overlaid, AreGone, IsEnd, itself, later, IsCleared}
use Rattle.gvn_globals.proofs.Basics.{before, same, behind, stands, equal_of, both}
use Rattle.gvn_globals.proofs.Firsts.{Finds, find_finds}
use Rattle.gvn_globals.proofs.Under.{under_between, under_not_before}
use Rattle.gvn_globals.proofs.Subtree.{left, walk_smaller, later_of, later_less, later_name, later_trans, fewer}
use Rattle.gvn_globals.proofs.Overlays.{or_other, get_overlaid, IsPassed, none_kept, gone_kept, passes_gone}

pub none_gone : (base : Globals) → AreGone base empty
none_gone base = record { passed = λ k last j v e l n c. absurd (true≢false (ap is_some (sym e ∙ get-empty key_cmp k))) }

-- one more node is gone
module _ (base gone : Globals) (k : Key) (v : List ℕ) where
  not_there : (j : Key) → contains_key (insert gone k v) j ≡ false → contains_key gone j ≡ false
  not_there j c = by (eq_by_cmp key_cmp j k) (sym (ap is_some (get-insert key_total gone k v j)) ∙ c)
    where
      by : (b : Bool) → is_some (if b then Some v else get gone j) ≡ false → contains_key gone j ≡ false
      by true c = absurd (true≢false c)
      by false c = c

  some_same : (a b : List ℕ) → Some a ≡ Some b → a ≡ b
  some_same a b e = cc

  more_gone : AreGone base gone → ((last j : Key) → is_key last ≡ true → v ≡ encoded last → is_later k j ≡ true → is_lt (key_cmp last j) ≡ false → contains_key gone j ≡ false → get base j ≡ None)
      → AreGone base (insert gone k v)
  more_gone a each = record { passed = λ q last j valid e l n c. by q last j valid (eq_by_cmp key_cmp q k) refl (sym (get-insert key_total gone k v q) ∙ e) l n (not_there j c) }
    where
      by : (q last j : Key) → is_key last ≡ true → (b : Bool) → eq_by_cmp key_cmp q k ≡ b → (if b then Some v else get gone q) ≡ Some (encoded last) → is_later q j ≡ true → is_lt (key_cmp last j) ≡ false → contains_key gone j ≡ false → get base j ≡ None
      by q last j valid true t e l n c = each last j valid (some_same v (encoded last) e) (ap (λ x. is_later x j) (sym (key_same q k (equal_of (key_cmp q k) t))) ∙ l) n c
      by q last j valid false t e l n c = a.passed q last j valid e l n c

no_code : (key : Key) → [] ≡ encoded key → ⊥
no_code key e = absurd (omega (arith, ap length e, length-append key.name (0 ∷ flat_map encoded_sub key.subs)))

pub gone_removed : (base gone : Globals) (k : Key) → AreGone base gone → AreGone base (insert gone k [])
gone_removed base gone k a = more_gone base gone k [] a (λ last j valid e l n c. absurd (no_code last e))

module _ (base sets gone o : Globals) (is : overlaid base sets gone ≡ o) (k last : Key) (cleared : IsCleared o k last) where
  there : (j : Key) → get o j ≡ None → or_other (get sets j) (if contains_key gone j then None else get base j) ≡ None
  there j n = sym (get_overlaid base sets gone j) ∙ ap (λ m. get m j) is ∙ n

  below_none : (j : Key) → get o j ≡ None → contains_key gone j ≡ false → get base j ≡ None
  below_none j n c = by (get sets j) (ap (λ b. or_other (get sets j) (if b then None else get base j)) (sym c) ∙ there j n)
    where
      by : (x : Option (List ℕ)) → or_other x (get base j) ≡ None → get base j ≡ None
      by None e = e
      by (Some y) e = absurd (true≢false (ap is_some e))

  pub gone_skipped : is_key last ≡ true → AreGone base gone → AreGone base (insert gone k (encoded last))
  gone_skipped valid a = more_gone base gone k (encoded last) a (λ other j v e l n c.
      below_none j (cleared.between j l (ap (λ x. is_lt (key_cmp x j)) (one other v e) ∙ n)) c)
    where
      one : (other : Key) → is_key other ≡ true → encoded last ≡ encoded other → last ≡ other
      one other v e = key_same last other (sym (key_ordered last other valid v) ∙ ap (slice_cmp nat_cmp (encoded last)) (sym e) ∙ tied_itself nat_list_cmp_total (encoded last))

  pub overlaid_skipped : (v : List ℕ) → overlaid base sets (insert gone k v) ≡ o
  overlaid_skipped v = same_map key_total key_same (overlaid base sets (insert gone k v)) (overlaid base sets gone) (λ q.
      get_overlaid base sets (insert gone k v) q
      ∙ ap (λ x. or_other (get sets q) (if is_some x then None else get base q)) (get-insert key_total gone k v q)
      ∙ by q (eq_by_cmp key_cmp q k) refl
      ∙ sym (get_overlaid base sets gone q)) ∙ is
    where
      both_none : (x y : Option (List ℕ)) → or_other x y ≡ None → or_other x None ≡ or_other x y
      both_none None y e = sym e
      both_none (Some z) y e = refl

      by : (q : Key) (b : Bool) → eq_by_cmp key_cmp q k ≡ b → or_other (get sets q) (if is_some (if b then Some v else get gone q) then None else get base q) ≡ or_other (get sets q) (if contains_key gone q then None else get base q)
      by q true t = both_none (get sets q) (if contains_key gone q then None else get base q) (there q (ap (get o) (key_same q k (equal_of (key_cmp q k) t)) ∙ cleared.itself))
      by q false t = refl

  abbrev pub IsSame : ℕ → Globals → Type 0
  IsSame n m = (n ≡ len (overlaid base sets m)) × AreGone base m × (overlaid base sets m ≡ o)

  pub same_skipped : (n : ℕ) → n ≡ len (overlaid base sets gone) → AreGone base gone → is_key last ≡ true → {A E : Type 0} (r : Result A E) (now : Globals) (at : Key) (end : List ℕ)
      → at ≡ k → end ≡ encoded last → OnOk r (now ≡ insert gone at end) → OnErr r (now ≡ gone) → IsSame n now
  same_skipped n count a valid (Ok x) now at end e f ok err =
      subst (IsSame n) (sym (ok ∙ ap (λ q. insert gone q end) e ∙ ap (insert gone k) f))
      (count ∙ ap len (is ∙ sym (overlaid_skipped (encoded last))), gone_skipped valid a, overlaid_skipped (encoded last))
  same_skipped n count a valid (Err x) now at end e f ok err = subst (IsSame n) (sym err) (count, a, is)

-- a walk goes on behind the end
module _ (base gone : Globals) (are : AreGone base gone) where
  passes_later : (key node last : Key) → IsPassed base gone key (Some node) → is_key last ≡ true → Some (encoded last) ≡ get gone node → is_later node last ≡ true → IsPassed base gone key (after base last)
  passes_later key node last p valid e up = record { finds = by (after base last) (find_finds key_total key_same base (is_later last)) }
    where
      between : (j : Key) → is_later node j ≡ true → is_lt (key_cmp last j) ≡ false → get (kept base gone) j ≡ None
      between j l n = by_gone (contains_key gone j) refl
        where
          by_gone : (b : Bool) → contains_key gone j ≡ b → get (kept base gone) j ≡ None
          by_gone true c = gone_kept base gone j c
          by_gone false c = none_kept base gone j (are.passed node last j valid (sym e) l n c)

      low : (j : Key) → is_later key j ≡ true → (is_later last j ≡ true → get base j ≡ None) → get (kept base gone) j ≡ None
      low j h none = elim (stands key_total key_same j node) [
        | before c ↦ p.finds.least j h c
        | same i ↦ gone_kept base gone j (ap (contains_key gone) i ∙ ap is_some (sym e))
        | behind c ↦ above (later_of key node j (later_name key node p.finds.passes) (later_name key j h) c)
      ]
        where
          above : is_later node j ≡ true → get (kept base gone) j ≡ None
          above l = by_end (is_lt (key_cmp last j)) refl
            where
              tie : slice_cmp nat_cmp key.name last.name ≡ Equal
              tie = later_name key last (later_trans key node last p.finds.passes up)

              by_end : (b : Bool) → is_lt (key_cmp last j) ≡ b → get (kept base gone) j ≡ None
              by_end true c = none_kept base gone j (none (both (eq_by_cmp (slice_cmp nat_cmp) last.name j.name) (is_lt (key_cmp last j)) (ap is_eq (sym (nat_list_cmp_total.congr key.name last.name j.name tie) ∙ later_name key j h)) c))
              by_end false c = between j l c

      by : (r : Option Key) → Finds key_cmp (get base) (get base) (is_later last) r → Finds key_cmp (get (kept base gone)) (get base) (is_later key) r
      by None f = λ j h. low j h (λ l. f j l)
      by (Some k) f = record { passes = later_trans key last k (later_trans key node last p.finds.passes up) f.passes; here = f.here; least = λ j h c. low j h (λ l. f.least j l c) }

  pub passes_end : (key node last : Key) (end : List ℕ) → IsPassed base gone key (Some node) → Some end ≡ get gone node → IsEnd node end last → IsPassed base gone key (after base last)
  passes_end key node last end p e (itself i) = subst (λ k. IsPassed base gone key (after base k)) (sym i) (passes_gone base gone key node p (ap is_some (sym e)))
  passes_end key node last end p e (later valid code up) = passes_later key node last p valid (ap (λ c. Some c) code ∙ e) up

pub end_smaller : (base : Globals) (node last : Key) (end : List ℕ) → IsEnd node end last → left base (after base last) < left base (Some node)
end_smaller base node last end (itself i) = subst (λ k. left base (after base k) < left base (Some node)) (sym i) (walk_smaller base node)
end_smaller base node last end (later valid code up) =
    let less = walk_smaller base last in
    let few : length (filter (is_later last) (keys base)) ≤ length (filter (is_later node) (keys base)) = fewer (is_later last) (is_later node) (λ k h. later_trans node last k up h) (keys base) in
    omega arith

-- ---- a node's whole subtree goes

pub all_at : (p : Key → Bool) (ks : List Key) → list_all p ks ≡ true → (i : ℕ) (k : Key) → i < length ks → k ≡ get_or ks i k → p k ≡ true
all_at p [] h i k l e = absurd (omega arith)
all_at p (x ∷ ks) h zero k l e = ap p e ∙ first_so (p x) (list_all p ks) h
all_at p (x ∷ ks) h (suc i) k l e = all_at p ks (second_so (p x) (list_all p ks) h) i k (omega arith) e

-- what lies between two keys at and below a node does so too
pub later_under : (top k last j : Key) → is_under top k ≡ true → is_under top last ≡ true → is_later k j ≡ true → is_lt (key_cmp last j) ≡ false → is_under top j ≡ true
later_under top k last j u v l n = elim (stands key_total key_same j last) [
  | before c ↦ under_between top j last (behind_top (key_cmp j top) refl) c v
  | same i ↦ ap (is_under top) i ∙ v
  | behind c ↦ absurd (true≢false (sym (ap is_lt c) ∙ n))
]
  where
    behind_top : (r : Ordering) → key_cmp j top ≡ r → is_lt r ≡ false
    behind_top Less c = absurd (true≢false (sym (ap is_lt (key_total.trans k j top (later_less k j l) c)) ∙ under_not_before top k u))
    behind_top Equal c = refl
    behind_top Greater c = refl

pub cleared_under : (g now : Globals) (top k last : Key) → now ≡ retain_keys g (λ j. not (is_under top j)) → is_under top k ≡ true → is_under top last ≡ true → IsCleared now k last
cleared_under g now top k last e u v = record { itself = none k u; between = λ j l n. none j (later_under top k last j u v l n) }
  where
    none : (j : Key) → is_under top j ≡ true → get now j ≡ None
    none j w = ap (λ m. get m j) e ∙ get-retain_keys g (λ k. not (is_under top k)) j (λ x i. ap (λ y. not (is_under top y)) (sym (key_same j x i))) ∙ ap (λ b. if not b then get g j else None) w
