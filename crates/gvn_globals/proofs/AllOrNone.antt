-- Changes that are made together, by what the globals answer.
use Rattle.std.proofs.Common.{◌≡◌, ℕ, zero, suc, ◌+◌, ◌<◌, Bool, true, false, not, ◌&&◌, ◌||◌, List, [], ◌∷◌, ◌++◌, length, take, get_or, is_some, option_map, Option, Some, None, if◌then◌else◌, refl, sym, ap, subst, ◌∙◌, true≢false}
use Rattle.std.specs.Prelude.{Result, Ok, Err, OnOk}
use Rattle.std.specs.Ordering.{eq_by_cmp}
use Rattle.std.specs.Cmp.{second_so}
use Rattle.std.specs.List.{list_any, list_all, filter}
use Rattle.std.proofs.lemmas.Cmp.{tied_itself}
use Rattle.std.proofs.lemmas.List.{take_more}
use Rattle.std.specs.FinMap.{find, get, keys, entries, contains_key, contains_key-keys, get-entries, get-insert, insert, remove, same_map}
use Rattle.global_defs.specs.Key.{Key, key_cmp}
use Rattle.global_defs.specs.Entry.{Globals}
use Rattle.global_defs.specs.Encoded.{encoded}
use Rattle.global_defs.proofs.Order.{key_total, key_same}
use Rattle.gvn_globals.specs.Overlaid.{with_all, overlaid}
use Rattle.gvn_globals.specs.Together.{is_among, AreNew, IsMore, IsLess, AreHeld}
use Rattle.std.specs.Map.{lookup}
use Rattle.std.specs.BTreeMap.{is_at, insert_entry}
use Rattle.gvn_globals.specs.Nodes.{node_value, is_coded, globals_of}
use Rattle.gvn_globals.specs.declared.globals.Node.{Node}
use Rattle.gvn_globals.proofs.Coded.{Entries, coded_is, coded_valid, coded_inserted, get_coded, set_coded}
use Rattle.gvn_globals.proofs.Basics.{equal_of, false_of}
use Rattle.gvn_globals.proofs.Subtree.{without_next, any_push}
use Rattle.gvn_globals.proofs.Overlays.{or_other, get_with, get_overlaid}
use Rattle.global_defs.proofs.Basics.{bytes_cmp, and_false}

-- ---- lists of keys

any_front : (p : Key → Bool) (ks : List Key) (i : ℕ) → list_any p (take i ks) ≡ true → list_any p ks ≡ true
any_front p [] zero h = h
any_front p [] (suc i) h = h
any_front p (k ∷ ks) zero h = absurd (true≢false (sym h))
any_front p (k ∷ ks) (suc i) h = by (p k) h (any_front p ks i)
  where
    by : (b : Bool) → (b || list_any p (take i ks)) ≡ true → (list_any p (take i ks) ≡ true → list_any p ks ≡ true) → (b || list_any p ks) ≡ true
    by true h m = refl
    by false h m = m h

among_filter : (p : Key → Bool) (ks : List Key) (k : Key) → is_among (filter p ks) k ≡ (is_among ks k && p k)
among_filter p [] k = refl
among_filter p (j ∷ ks) k = by (eq_by_cmp key_cmp k j) (p j) refl refl (among_filter p ks k)
  where
    same : eq_by_cmp key_cmp k j ≡ true → p k ≡ p j
    same e = ap p (key_same k j (equal_of (key_cmp k j) e))

    by : (t b : Bool) → eq_by_cmp key_cmp k j ≡ t → p j ≡ b → is_among (filter p ks) k ≡ (is_among ks k && p k) → is_among (if b then j ∷ filter p ks else filter p ks) k ≡ ((t || is_among ks k) && p k)
    by true true e d m = ap (λ x. x || is_among (filter p ks) k) e ∙ sym (same e ∙ d)
    by true false e d m = m ∙ ap (λ x. is_among ks k && x) (same e ∙ d) ∙ and_false (is_among ks k) ∙ sym (same e ∙ d)
    by false true e d m = ap (λ x. x || is_among (filter p ks) k) e ∙ m
    by false false e d m = m

among_beyond : (g other : Globals) (ks : List Key) → ks ≡ filter (λ k. not (contains_key other k)) (keys g) → (k : Key) → is_among ks k ≡ (contains_key g k && not (contains_key other k))
among_beyond g other ks is k =
    ap (λ l. is_among l k) is ∙ among_filter (λ k. not (contains_key other k)) (keys g) k
    ∙ ap (λ b. b && not (contains_key other k)) (sym (contains_key-keys g k))

-- ---- fewer nodes

pub less_next : (g : Globals) (ks : List Key) (i : ℕ) (j : Key) (now next : Globals) → i < length ks → j ≡ get_or ks i j → IsLess g (take i ks) now → next ≡ remove now j → IsLess g (take (i + 1) ks) next
less_next g ks i j now next h e l is =
    let w = without_next g ks i j now h e (record { answers = l.answers }) in
    subst (IsLess g (take (i + 1) ks)) (sym is) (record { answers = w.answers })

-- ---- more nodes

more_push : (g : Globals) (ks : List Key) (j : Key) (v : List ℕ) (now : Globals) → IsMore g ks now → IsMore g (ks ++ j ∷ []) (insert now j v)
more_push g ks j v now m = record {
  others = λ k n. get-insert key_total now j v k ∙ other k (eq_by_cmp key_cmp k j) (is_among ks k) (sym (any_push (eq_by_cmp key_cmp k) ks j) ∙ n) (m.others k);
  here = λ k h. ap is_some (get-insert key_total now j v k) ∙ there k (eq_by_cmp key_cmp k j) (is_among ks k) (sym (any_push (eq_by_cmp key_cmp k) ks j) ∙ h) (m.here k);
}
  where
    other : (k : Key) (a b : Bool) → (b || a) ≡ false → (b ≡ false → get now k ≡ get g k) → (if a then Some v else get now k) ≡ get g k
    other k true true n f = absurd (true≢false n)
    other k true false n f = absurd (true≢false n)
    other k false true n f = absurd (true≢false n)
    other k false false n f = f refl

    there : (k : Key) (a b : Bool) → (b || a) ≡ true → (b ≡ true → is_some (get now k) ≡ true) → is_some (if a then Some v else get now k) ≡ true
    there k true b h f = refl
    there k false true h f = f refl
    there k false false h f = absurd (true≢false (sym h))

pub more_next : (g : Globals) (ks : List Key) (i : ℕ) (j : Key) (v : List ℕ) (now next : Globals) → i < length ks → j ≡ get_or ks i j → IsMore g (take i ks) now → next ≡ insert now j v → IsMore g (take (i + 1) ks) next
more_next g ks i j v now next h e m is =
    subst (λ l. IsMore g l next) (ap (λ x. take i ks ++ x ∷ []) e ∙ sym (take_more ks i j h))
    (subst (IsMore g (take i ks ++ j ∷ [])) (sym is) (more_push g (take i ks) j v now m))

-- new nodes are taken away again
pub undone : (g : Globals) (ks : List Key) (i : ℕ) (mid now : Globals) → AreNew g ks → IsMore g (take i ks) mid → IsLess mid ks now → now ≡ g
undone g ks i mid now n m l = same_map key_total key_same now g (λ k. l.answers k ∙ by k (is_among ks k) refl)
  where
    by : (k : Key) (b : Bool) → is_among ks k ≡ b → (if b then None else get mid k) ≡ get g k
    by k true e = sym (n.none k e)
    by k false e = m.others k (false_of (is_among (take i ks) k) (λ t. true≢false (sym (any_front (eq_by_cmp key_cmp k) ks i t) ∙ e)))

-- ---- other values

find_front : (q : Key) (xs : List (Key × List ℕ)) (e : Key × List ℕ) → is_some (find key_cmp q xs) ≡ true → is_some (find key_cmp q (xs ++ e ∷ [])) ≡ true
find_front q [] e h = absurd (true≢false (sym h))
find_front q (x ∷ xs) e h = by (eq_by_cmp key_cmp q x.0) h (find_front q xs e)
  where
    by : (b : Bool) → is_some (if b then Some x.1 else find key_cmp q xs) ≡ true → (is_some (find key_cmp q xs) ≡ true → is_some (find key_cmp q (xs ++ e ∷ [])) ≡ true)
        → is_some (if b then Some x.1 else find key_cmp q (xs ++ e ∷ [])) ≡ true
    by true h m = refl
    by false h m = m h

find_end : (xs : List (Key × List ℕ)) (e : Key × List ℕ) → is_some (find key_cmp e.0 (xs ++ e ∷ [])) ≡ true
find_end [] e = rw (tied_itself key_total e.0) refl
find_end (x ∷ xs) e = by (eq_by_cmp key_cmp e.0 x.0) (find_end xs e)
  where
    by : (b : Bool) → is_some (find key_cmp e.0 (xs ++ e ∷ [])) ≡ true → is_some (if b then Some x.1 else find key_cmp e.0 (xs ++ e ∷ [])) ≡ true
    by true m = refl
    by false m = m

with_last : (g : Globals) (xs : List (Key × List ℕ)) (e : Key × List ℕ) → with_all g (xs ++ e ∷ []) ≡ with_all (insert g e.0 e.1) xs
with_last g [] e = refl
with_last g (x ∷ xs) e = ap (λ m. insert m x.0 x.1) (with_last g xs e)

module _ (g : Globals) (all xs : List (Key × List ℕ)) (e : Key × List ℕ) (is : all ≡ xs ++ e ∷ []) (are : AreHeld g all) where
  pub put_held : contains_key g e.0 ≡ true
  put_held = are.held e.0 (ap (λ l. is_some (find key_cmp e.0 l)) is ∙ find_end xs e)

  pub put_rest : (next : Globals) → next ≡ insert g e.0 e.1 → AreHeld next xs
  put_rest next n = subst (λ m. AreHeld m xs) (sym n) (record {
    held = λ k h. ap is_some (get-insert key_total g e.0 e.1 k) ∙ by k (eq_by_cmp key_cmp k e.0) (are.held k (ap (λ l. is_some (find key_cmp k l)) is ∙ find_front k xs e h));
  })
    where
      by : (k : Key) (b : Bool) → is_some (get g k) ≡ true → is_some (if b then Some e.1 else get g k) ≡ true
      by k true h = refl
      by k false h = h

  pub put_same : (next w : Globals) → next ≡ insert g e.0 e.1 → with_all g all ≡ w → with_all next xs ≡ w
  put_same next w n h = ap (λ m. with_all m xs) n ∙ sym (with_last g xs e) ∙ ap (with_all g) (sym is) ∙ h

-- ---- the changes as a whole

none_by : {X : Type 0} (o : Option X) → not (is_some o) ≡ true → o ≡ None
none_by None h = refl
none_by (Some x) h = absurd (true≢false (sym h))

pub are_new : (g sets : Globals) (added : List Key) → added ≡ filter (λ k. not (contains_key g k)) (keys sets) → AreNew g added
are_new g sets added is = record { none = λ k h. none_by (get g k) (second_so (contains_key sets k) (not (contains_key g k)) (sym (among_beyond sets g added is k) ∙ h)) }

module _ (g sets gone mid low : Globals) (added removed : List Key)
    (adds : added ≡ filter (λ k. not (contains_key g k)) (keys sets)) (removes : removed ≡ filter (λ k. not (contains_key sets k)) (keys gone))
    (more : IsMore g added mid) (less : IsLess mid removed low) where
  stays : (k : Key) → contains_key sets k ≡ true → get low k ≡ get mid k
  stays k s = less.answers k ∙ ap (λ b. if b then None else get mid k)
      (among_beyond gone sets removed removes k ∙ ap (λ b. contains_key gone k && not b) s ∙ and_false (contains_key gone k))

  pub are_held : AreHeld low (entries sets)
  are_held = record { held = λ k h. let s = ap is_some (get-entries sets k) ∙ h in ap is_some (stays k s) ∙ by k s (contains_key g k) refl }
    where
      by : (k : Key) → contains_key sets k ≡ true → (b : Bool) → contains_key g k ≡ b → is_some (get mid k) ≡ true
      by k s true e = ap is_some (more.others k (among_beyond sets g added adds k ∙ ap (λ b. contains_key sets k && not b) e ∙ and_false (contains_key sets k))) ∙ e
      by k s false e = more.here k (among_beyond sets g added adds k ∙ ap (λ b. contains_key sets k && not b) e ∙ ap (λ b. b && true) s)

  pub made : with_all low (entries sets) ≡ overlaid g sets gone
  made = same_map key_total key_same (with_all low (entries sets)) (overlaid g sets gone) (λ q.
      get_with low (entries sets) q ∙ ap (λ o. or_other o (get low q)) (sym (get-entries sets q))
      ∙ by q (get sets q) refl ∙ sym (get_overlaid g sets gone q))
    where
      rest : (q : Key) → contains_key sets q ≡ false → (c : Bool) → contains_key gone q ≡ c → get low q ≡ (if c then None else get g q)
      rest q n true e = less.answers q ∙ ap (λ b. if b then None else get mid q) (among_beyond gone sets removed removes q ∙ ap (λ b. b && not (contains_key sets q)) e ∙ ap not n)
      rest q n false e =
          less.answers q ∙ ap (λ b. if b then None else get mid q) (among_beyond gone sets removed removes q ∙ ap (λ b. b && not (contains_key sets q)) e)
          ∙ more.others q (among_beyond sets g added adds q ∙ ap (λ b. b && not (contains_key g q)) n)

      by : (q : Key) (o : Option (List ℕ)) → get sets q ≡ o → or_other o (get low q) ≡ or_other o (if contains_key gone q then None else get g q)
      by q None e = rest q (ap is_some e) (contains_key gone q) refl
      by q (Some x) e = refl

-- ---- a node in the place of another one

module _ (code : List ℕ) (n : Node) (es : Entries) (fits : is_coded (code, n) ≡ true) (coded : list_all is_coded es ≡ true) where
  pub found_at : (g : Globals) (e : Key × List ℕ) → globals_of es ≡ g → (n.key, n.value) ≡ e → contains_key g e.0 ≡ true → is_some (lookup (is_at (bytes_cmp code)) es) ≡ true
  found_at g e same is held =
      ap (λ d. is_some (lookup (is_at (bytes_cmp d)) es)) (coded_is (code, n) fits)
      ∙ sym (mapped (lookup (is_at (bytes_cmp (encoded n.key))) es))
      ∙ ap is_some (sym (get_coded n.key es (coded_valid (code, n) fits) coded) ∙ ap (λ m. get m n.key) same ∙ ap (λ p. get g p.0) is) ∙ held
    where
      mapped : (o : Option Node) → is_some (option_map node_value o) ≡ is_some o
      mapped None = refl
      mapped (Some x) = refl

  pub put_coded : (fs : Entries) → fs ≡ insert_entry bytes_cmp es code n → list_all is_coded fs ≡ true
  put_coded fs is = ap (list_all is_coded) is ∙ coded_inserted code n es fits coded

  pub put_is : (fs : Entries) (g : Globals) (e : Key × List ℕ) → fs ≡ insert_entry bytes_cmp es code n
      → ((c : List ℕ) → lookup (is_at (bytes_cmp c)) fs ≡ (if is_at (bytes_cmp code) c then Some n else lookup (is_at (bytes_cmp c)) es))
      → globals_of es ≡ g → (n.key, n.value) ≡ e → globals_of fs ≡ insert g e.0 e.1
  put_is fs g e is at same shows =
      set_coded n.key (coded_valid (code, n) fits) (Some n) es fs coded (put_coded fs is)
      (λ c. at c ∙ ap (λ d. if is_at (bytes_cmp d) c then Some n else lookup (is_at (bytes_cmp c)) es) (coded_is (code, n) fits)) n.value refl
      ∙ ap (λ m. insert m n.key n.value) same ∙ ap (λ p. insert g p.0 p.1) shows

pub at_none : {X : Type 0} (o : Option X) → is_some o ≡ true → o ≡ None → ⊥
at_none o h e = true≢false (sym h ∙ ap is_some e)

pub on_ok : {A E : Type 0} (r : Result A E) (P Q : Type 0) → (P → Q) → OnOk r P → OnOk r Q
on_ok (Ok x) P Q f h = f h
on_ok (Err e) P Q f h = tt
