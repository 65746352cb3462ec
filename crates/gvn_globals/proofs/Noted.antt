-- Nodes that are noted as gone, all those at and below a top one.
use Rattle.std.proofs.Common.{◌≡◌, ℕ, ◌+◌, ◌<◌, Bool, true, false, not, ◌||◌, List, [], ◌∷◌, ◌++◌, length, take, get_or, is_some, Option, Some, None, Bor, if◌then◌else◌, refl, sym, ap, subst, ◌∙◌, true≢false}
use Rattle.std.specs.Ordering.{is_lt, nat_cmp, eq_by_cmp}
use Rattle.std.specs.Cmp.{first_so, second_so}
use Rattle.std.specs.Cmp.Lexicographic.{slice_cmp, nat_list_cmp_total}
use Rattle.std.specs.List.{list_all}
use Rattle.std.specs.Option.{option_copied}
use Rattle.std.specs.FinMap.{get, contains_key, get-insert, insert, get-retain_keys, retain_keys, same_map}
use Rattle.std.proofs.lemmas.Cmp.{tied_itself}
use Rattle.std.proofs.lemmas.List.{take_more}
use Rattle.global_defs.specs.Key.{Key, key_cmp}
use Rattle.global_defs.specs.Encoded.{encoded}
use Rattle.global_defs.specs.Entry.{Globals, is_under}
use Rattle.global_defs.specs.Valid.{is_key}
use Rattle.global_defs.proofs.Order.{key_total, key_same}
use Rattle.global_defs.proofs.KeyOrder.{key_ordered}
use Rattle.gvn_globals.specs.Walks.{is_later, IsSubtree}
use Rattle.gvn_globals.specs.Overlaid.{kept, overlaid, AreGone}
use Rattle.gvn_globals.specs.Together.{is_among, IsEndUnder, AreNoted}
use Rattle.gvn_globals.proofs.Basics.{equal_of, false_of, none_of}
use Rattle.gvn_globals.proofs.Subtree.{any_push}
use Rattle.gvn_globals.proofs.Overlays.{or_other, get_kept, get_overlaid}
use Rattle.gvn_globals.proofs.Gone.{later_under}

pub copied : {A : Type 0} (o : Option (Bor A)) → is_some (option_copied o) ≡ is_some o
copied None = refl
copied (Some x) = refl

pub noted_none : (g : Globals) (top : Key) → AreNoted g top [] g
noted_none g top = record { noted = λ k h. absurd (true≢false (sym h)); others = λ k n. refl }

noted_push : (g : Globals) (top : Key) (ks : List Key) (j last : Key) (now : Globals) → is_under top last ≡ true → is_key last ≡ true → AreNoted g top ks now → AreNoted g top (ks ++ j ∷ []) (insert now j (encoded last))
noted_push g top ks j last now u valid n = record {
  noted = λ k h. subst (IsEndUnder top) (sym (get-insert key_total now j (encoded last) k)) (here k (eq_by_cmp key_cmp k j) (is_among ks k) (sym (any_push (eq_by_cmp key_cmp k) ks j) ∙ h) (n.noted k));
  others = λ k h. get-insert key_total now j (encoded last) k ∙ other k (eq_by_cmp key_cmp k j) (is_among ks k) (sym (any_push (eq_by_cmp key_cmp k) ks j) ∙ h) (n.others k);
}
  where
    here : (k : Key) (a b : Bool) → (b || a) ≡ true → (b ≡ true → IsEndUnder top (get now k)) → IsEndUnder top (if a then Some (encoded last) else get now k)
    here k true b h f = record { last = last; under = u; valid = valid; code = refl }
    here k false true h f = f refl
    here k false false h f = absurd (true≢false (sym h))

    other : (k : Key) (a b : Bool) → (b || a) ≡ false → (b ≡ false → get now k ≡ get g k) → (if a then Some (encoded last) else get now k) ≡ get g k
    other k true true n f = absurd (true≢false n)
    other k true false n f = absurd (true≢false n)
    other k false true n f = absurd (true≢false n)
    other k false false n f = f refl

pub noted_next : (g : Globals) (top : Key) (ks : List Key) (i : ℕ) (j last : Key) (now next : Globals) → i < length ks → j ≡ get_or ks i j → is_under top last ≡ true → is_key last ≡ true
    → AreNoted g top (take i ks) now → next ≡ insert now j (encoded last) → AreNoted g top (take (i + 1) ks) next
noted_next g top ks i j last now next h e u valid n is =
    subst (λ l. AreNoted g top l next) (ap (λ x. take i ks ++ x ∷ []) e ∙ sym (take_more ks i j h))
    (subst (AreNoted g top (take i ks ++ j ∷ [])) (sym is) (noted_push g top (take i ks) j last now u valid n))

among_under : (top : Key) (ks : List Key) → list_all (is_under top) ks ≡ true → (k : Key) → is_among ks k ≡ true → is_under top k ≡ true
among_under top [] h k t = absurd (true≢false (sym t))
among_under top (j ∷ ks) h k t = by (eq_by_cmp key_cmp k j) refl t (among_under top ks (second_so (is_under top j) (list_all (is_under top) ks) h) k)
  where
    by : (b : Bool) → eq_by_cmp key_cmp k j ≡ b → (b || is_among ks k) ≡ true → (is_among ks k ≡ true → is_under top k ≡ true) → is_under top k ≡ true
    by true e t m = ap (is_under top) (key_same k j (equal_of (key_cmp k j) e)) ∙ first_so (is_under top j) (list_all (is_under top) ks) h
    by false e t m = m t

-- all nodes that are still there at and below the top one are noted
module _ (base gone now : Globals) (top : Key) (ks : List Key) (sub : IsSubtree (kept base gone) top ks) (n : AreNoted gone top ks now) where
  outside : (k : Key) → is_under top k ≡ false → get now k ≡ get gone k
  outside k u = n.others k (false_of (is_among ks k) (λ t. true≢false (sym (among_under top ks sub.under k t) ∙ u)))

  none_left : (k : Key) → is_under top k ≡ true → contains_key now k ≡ false → get base k ≡ None
  none_left k u c = by (is_among ks k) refl
    where
      there : is_among ks k ≡ false → contains_key gone k ≡ false
      there e = ap is_some (sym (n.others k e)) ∙ c

      still : is_among ks k ≡ false → get (kept base gone) k ≡ get base k
      still e = get_kept base gone k ∙ ap (λ b. if b then None else get base k) (there e)

      by : (b : Bool) → is_among ks k ≡ b → get base k ≡ None
      by true e = absurd (true≢false (sym (ap is_some (n.noted k e).code) ∙ c))
      by false e = none_of (get base k) (λ s. true≢false (sym (sub.whole k u (ap is_some (still e) ∙ s)) ∙ e))

  pub gone_noted : AreGone base gone → AreGone base now
  gone_noted a = record { passed = λ k last j valid e l f c. by k last j valid e l f c (is_among ks k) refl }
    where
      by : (k last j : Key) → is_key last ≡ true → get now k ≡ Some (encoded last) → is_later k j ≡ true → is_lt (key_cmp last j) ≡ false → contains_key now j ≡ false → (b : Bool) → is_among ks k ≡ b → get base j ≡ None
      by k last j valid e l f c true t = none_left j (later_under top k last j (among_under top ks sub.under k t) (last_under (n.noted k t)) l f) c
        where
          some_same : (a b : List ℕ) → Some a ≡ Some b → a ≡ b
          some_same a b e = cc

          last_under : IsEndUnder top (get now k) → is_under top last ≡ true
          last_under x =
              let code : encoded last ≡ encoded x.last = some_same (encoded last) (encoded x.last) (sym e ∙ x.code) in
              ap (is_under top) (key_same last x.last (sym (key_ordered last x.last valid x.valid) ∙ ap (slice_cmp nat_cmp (encoded last)) (sym code) ∙ tied_itself nat_list_cmp_total (encoded last))) ∙ x.under
      by k last j valid e l f c false t = in_gone (contains_key gone j) refl
        where
          in_gone : (b : Bool) → contains_key gone j ≡ b → get base j ≡ None
          in_gone false d = a.passed k last j valid (sym (n.others k t) ∙ e) l f d
          in_gone true d = by_among (is_among ks j) refl
            where
              by_among : (b : Bool) → is_among ks j ≡ b → get base j ≡ None
              by_among true h = absurd (true≢false (sym (ap is_some (n.noted j h).code) ∙ c))
              by_among false h = absurd (true≢false (sym (ap is_some (n.others j h) ∙ d) ∙ c))

  module _ (sets : Globals) where
    retained : (g : Globals) (q : Key) → get (retain_keys g (λ k. not (is_under top k))) q ≡ (if not (is_under top q) then get g q else None)
    retained g q = get-retain_keys g (λ k. not (is_under top k)) q (λ x e. ap (λ y. not (is_under top y)) (sym (key_same q x e)))

    pub killed : overlaid base (retain_keys sets (λ k. not (is_under top k))) now ≡ retain_keys (overlaid base sets gone) (λ k. not (is_under top k))
    killed = same_map key_total key_same (overlaid base (retain_keys sets (λ k. not (is_under top k))) now) (retain_keys (overlaid base sets gone) (λ k. not (is_under top k))) (λ q.
        get_overlaid base (retain_keys sets (λ k. not (is_under top k))) now q
        ∙ ap (λ o. or_other o (if contains_key now q then None else get base q)) (retained sets q)
        ∙ by q (is_under top q) refl
        ∙ ap (λ o. if not (is_under top q) then o else None) (sym (get_overlaid base sets gone q))
        ∙ sym (retained (overlaid base sets gone) q))
      where
        none : (q : Key) → is_under top q ≡ true → (c : Bool) → contains_key now q ≡ c → (if c then None else get base q) ≡ None
        none q u true c = refl
        none q u false c = none_left q u c

        by : (q : Key) (u : Bool) → is_under top q ≡ u → or_other (if not u then get sets q else None) (if contains_key now q then None else get base q) ≡ (if not u then or_other (get sets q) (if contains_key gone q then None else get base q) else None)
        by q true e = none q e (contains_key now q) refl
        by q false e = ap (λ o. or_other (get sets q) (if is_some o then None else get base q)) (outside q e)
