-- Nodes at their encoded keys, and the globals that they are.
use Rattle.std.proofs.Common.{◌≡◌, ℕ, Bool, true, false, List, [], ◌∷◌, map, length, is_some, option_map, Option, Some, None, if◌then◌else◌, refl, sym, ap, ◌∙◌, true≢false, arith}
use Rattle.std.specs.declared.cmp.Ordering.{Ordering}
use Rattle.std.specs.declared.cmp.Ordering.TheVariants.{Less, Equal, Greater}
use Rattle.std.specs.Ordering.{is_lt, is_eq, eq_by_cmp, match_ordering}
use Rattle.std.specs.Cmp.{eq_by_cmp_equiv, first_so, second_so}
use Rattle.std.specs.Cmp.Lexicographic.{nat_list_cmp_total}
use Rattle.std.proofs.lemmas.Cmp.{tied_itself}
use Rattle.std.specs.List.{list_all, AllByRecursion}
use Rattle.std.specs.List as list
use Rattle.std.specs.List.Sorted.{IsStrictlySortedBy}
use Rattle.std.specs.Map.{keys_of, lookup, remove_entry}
use Rattle.std.specs.BTreeMap.{is_at, insert_entry}
use Rattle.std.specs.FinMap as map
use Rattle.std.specs.FinMap.{is_sorted, put, find, entries, from_entries, get, get-from_entries, get-insert, get-remove, insert, remove, same_map, keys}
use Rattle.std.specs.FinMap.Entries.{below_all}
use Rattle.std.proofs.lemmas.List.{length-map}
use Rattle.std.proofs.lemmas.Map.Keys.{sorted_head, sorted_tail}
use Rattle.global_defs.specs.Key.{Key, key_cmp}
use Rattle.global_defs.specs.Encoded.{encoded}
use Rattle.global_defs.specs.Entry.{Globals}
use Rattle.global_defs.specs.Valid.{is_key}
use Rattle.global_defs.proofs.Order.{key_total, key_same}
use Rattle.global_defs.proofs.KeyOrder.{key_ordered}
use Rattle.gvn_globals.specs.declared.globals.Node.{Node}
use Rattle.gvn_globals.specs.Nodes.{node_key, node_value, is_coded, entries_of, globals_of}
use Rattle.gvn_globals.proofs.Basics.{less_of, equal_of, both}
use Rattle.global_defs.proofs.Basics.{bytes_cmp}

-- entries of the tree
abbrev pub Entries : Type 0
Entries = List (List ℕ × Node)

pub coded_valid : (e : List ℕ × Node) → is_coded e ≡ true → is_key e.1.key ≡ true
coded_valid e h = first_so (is_key e.1.key) (eq_by_cmp bytes_cmp e.0 (encoded e.1.key)) h

pub coded_is : (e : List ℕ × Node) → is_coded e ≡ true → e.0 ≡ encoded e.1.key
coded_is e h = map.slice_cmp-IsAntisymmetric map.nat_cmp-IsAntisymmetric e.0 (encoded e.1.key) (equal_of (bytes_cmp e.0 (encoded e.1.key)) (second_so (is_key e.1.key) (eq_by_cmp bytes_cmp e.0 (encoded e.1.key)) h))

pub coded_first : (e : List ℕ × Node) (es : Entries) → list_all is_coded (e ∷ es) ≡ true → is_coded e ≡ true
coded_first e es h = first_so (is_coded e) (list_all is_coded es) h

pub coded_rest : (e : List ℕ × Node) (es : Entries) → list_all is_coded (e ∷ es) ≡ true → list_all is_coded es ≡ true
coded_rest e es h = second_so (is_coded e) (list_all is_coded es) h

-- codes compare as keys do
pub coded_cmp : (q : Key) (e : List ℕ × Node) → is_key q ≡ true → is_coded e ≡ true → bytes_cmp (encoded q) e.0 ≡ key_cmp q e.1.key
coded_cmp q e v h = ap (bytes_cmp (encoded q)) (coded_is e h) ∙ key_ordered q e.1.key v (coded_valid e h)

pub found_coded : (q : Key) (es : Entries) → is_key q ≡ true → list_all is_coded es ≡ true → find key_cmp q (entries_of es) ≡ option_map node_value (lookup (is_at (bytes_cmp (encoded q))) es)
found_coded q [] v h = refl
found_coded q (e ∷ es) v h =
    by (is_eq (bytes_cmp (encoded q) e.0)) (ap is_eq (sym (coded_cmp q e v (coded_first e es h)))) (found_coded q es v (coded_rest e es h))
  where
    by : (b : Bool) → eq_by_cmp key_cmp q e.1.key ≡ b → find key_cmp q (entries_of es) ≡ option_map node_value (lookup (is_at (bytes_cmp (encoded q))) es)
        → (if eq_by_cmp key_cmp q e.1.key then Some e.1.value else find key_cmp q (entries_of es)) ≡ option_map node_value (if b then Some e.1 else lookup (is_at (bytes_cmp (encoded q))) es)
    by true t n = rw t refl
    by false t n = rw t n

-- a key that is none has no node
pub none_invalid : (q : Key) (es : Entries) → is_key q ≡ false → list_all is_coded es ≡ true → find key_cmp q (entries_of es) ≡ None
none_invalid q [] v h = refl
none_invalid q (e ∷ es) v h = by (key_cmp q e.1.key) refl (none_invalid q es v (coded_rest e es h))
  where
    by : (r : Ordering) → key_cmp q e.1.key ≡ r → find key_cmp q (entries_of es) ≡ None → (if is_eq r then Some e.1.value else find key_cmp q (entries_of es)) ≡ None
    by Less c n = n
    by Equal c n = absurd (true≢false (sym (ap is_key (key_same q e.1.key c) ∙ coded_valid e (coded_first e es h)) ∙ v))
    by Greater c n = n

-- each node's key is one
pub present_valid : (q : Key) (es : Entries) → list_all is_coded es ≡ true → is_some (get (globals_of es) q) ≡ true → is_key q ≡ true
present_valid q es h s = by (is_key q) refl
  where
    by : (b : Bool) → is_key q ≡ b → b ≡ true
    by true v = refl
    by false v = absurd (true≢false (sym s ∙ ap is_some (get-from_entries key_total (entries_of es) q ∙ none_invalid q es v h)))

pub get_coded : (q : Key) (es : Entries) → is_key q ≡ true → list_all is_coded es ≡ true → get (globals_of es) q ≡ option_map node_value (lookup (is_at (bytes_cmp (encoded q))) es)
get_coded q es v h = get-from_entries key_total (entries_of es) q ∙ found_coded q es v h

below_coded : (e : List ℕ × Node) (es : Entries) → is_coded e ≡ true → list_all is_coded es ≡ true → AllByRecursion (λ c. bytes_cmp e.0 c ≡ Less) (keys_of es) → below_all key_cmp e.1.key (entries_of es) ≡ true
below_coded e [] g h a = refl
below_coded e (f ∷ fs) g h a =
    both (is_lt (key_cmp e.1.key f.1.key)) (below_all key_cmp e.1.key (entries_of fs))
    (ap is_lt (sym (coded_cmp e.1.key f (coded_valid e g) (coded_first f fs h)) ∙ ap (λ c. bytes_cmp c f.0) (sym (coded_is e g)) ∙ a.0))
    (below_coded e fs g (coded_rest f fs h) a.1)

pub sorted_coded : (es : Entries) → IsStrictlySortedBy bytes_cmp (keys_of es) → list_all is_coded es ≡ true → is_sorted key_cmp (entries_of es) ≡ true
sorted_coded [] s h = refl
sorted_coded (e ∷ es) s h =
    both (below_all key_cmp e.1.key (entries_of es)) (is_sorted key_cmp (entries_of es))
    (below_coded e es (coded_first e es h) (coded_rest e es h) (sorted_head bytes_cmp e.0 (keys_of es) s))
    (sorted_coded es (sorted_tail bytes_cmp e.0 (keys_of es) s) (coded_rest e es h))

-- a map of sorted entries has them
put_first : (k : Key) (v : List ℕ) (es : List (Key × List ℕ)) → below_all key_cmp k es ≡ true → put key_cmp k v es ≡ (k, v) ∷ es
put_first k v [] h = refl
put_first k v (e ∷ es) h = rw (less_of (key_cmp k e.0) (first_so (is_lt (key_cmp k e.0)) (below_all key_cmp k es) h)) refl

no_entries : (m : Globals) → map.len m ≡ 0 → entries m ≡ []
no_entries m e = none (entries m) (sym (map.len-entries m) ∙ e)
  where
    none : (es : List (Key × List ℕ)) → length es ≡ 0 → es ≡ []
    none [] h = refl
    none (x ∷ es) h = absurd (omega arith)

pub entries_made : (es : List (Key × List ℕ)) → is_sorted key_cmp es ≡ true → entries (from_entries {R = key_cmp} es) ≡ es
entries_made [] h = no_entries (map.empty {X = List ℕ} {R = key_cmp}) (map.len-empty key_cmp (List ℕ))
entries_made (e ∷ es) h =
    map.entries-insert key_total (from_entries {R = key_cmp} es) e.0 e.1
    ∙ ap (put key_cmp e.0 e.1) (entries_made es (second_so (below_all key_cmp e.0 es) (is_sorted key_cmp es) h))
    ∙ put_first e.0 e.1 es (first_so (below_all key_cmp e.0 es) (is_sorted key_cmp es) h)

pub len_coded : (es : Entries) → IsStrictlySortedBy bytes_cmp (keys_of es) → list_all is_coded es ≡ true → map.len (globals_of es) ≡ length es
len_coded es s h = map.len-entries (globals_of es) ∙ ap length (entries_made (entries_of es) (sorted_coded es s h)) ∙ length-map es (λ e. (e.1.key, e.1.value))

-- the first entry whose code passes has the first key that passes
found_key : (t : List ℕ → Bool) (p : Key → Bool) (es : Entries) → ((e : List ℕ × Node) → is_coded e ≡ true → t e.0 ≡ p e.1.key) → list_all is_coded es ≡ true
    → option_map node_key (option_map (λ e. e.1) (list.find (λ e. t e.0) es)) ≡ list.find p (map (λ e. e.0) (entries_of es))
found_key t p [] same h = refl
found_key t p (e ∷ es) same h = by (t e.0) (sym (same e (coded_first e es h))) (found_key t p es same (coded_rest e es h))
  where
    by : (b : Bool) → p e.1.key ≡ b → option_map node_key (option_map (λ e. e.1) (list.find (λ e. t e.0) es)) ≡ list.find p (map (λ e. e.0) (entries_of es))
        → option_map node_key (option_map (λ e. e.1) (if b then Some e else list.find (λ e. t e.0) es)) ≡ (if p e.1.key then Some e.1.key else list.find p (map (λ e. e.0) (entries_of es)))
    by true s n = rw s refl
    by false s n = rw s n

pub first_key : (t : List ℕ → Bool) (p : Key → Bool) (es : Entries) → ((e : List ℕ × Node) → is_coded e ≡ true → t e.0 ≡ p e.1.key) → IsStrictlySortedBy bytes_cmp (keys_of es) → list_all is_coded es ≡ true
    → option_map node_key (option_map (λ e. e.1) (list.find (λ e. t e.0) es)) ≡ list.find p (keys (globals_of es))
first_key t p es same s h = found_key t p es same h ∙ ap (λ l. list.find p (map (λ e. e.0) l)) (sym (entries_made (entries_of es) (sorted_coded es s h)))

pub coded_removed : (t : List ℕ → Bool) (es : Entries) → list_all is_coded es ≡ true → list_all is_coded (remove_entry t es) ≡ true
coded_removed t [] h = refl
coded_removed t (e ∷ es) h = by (t e.0) (coded_removed t es (coded_rest e es h))
  where
    by : (b : Bool) → list_all is_coded (remove_entry t es) ≡ true → list_all is_coded (if b then es else e ∷ remove_entry t es) ≡ true
    by true n = coded_rest e es h
    by false n = both (is_coded e) (list_all is_coded (remove_entry t es)) (coded_first e es h) n

pub coded_inserted : (code : List ℕ) (n : Node) (es : Entries) → is_coded (code, n) ≡ true → list_all is_coded es ≡ true → list_all is_coded (insert_entry bytes_cmp es code n) ≡ true
coded_inserted code n [] g h = both (is_coded (code, n)) true g refl
coded_inserted code n (e ∷ es) g h = by (bytes_cmp code e.0) refl (coded_inserted code n es g (coded_rest e es h))
  where
    by : (r : Ordering) → bytes_cmp code e.0 ≡ r → list_all is_coded (insert_entry bytes_cmp es code n) ≡ true → list_all is_coded (match_ordering r ((code, n) ∷ e ∷ es) ((e.0, n) ∷ es) (e ∷ insert_entry bytes_cmp es code n)) ≡ true
    by Less c m = both (is_coded (code, n)) (list_all is_coded (e ∷ es)) g h
    by Equal c m = both (is_coded (e.0, n)) (list_all is_coded es) (ap (λ d. is_coded (d, n)) (sym (map.slice_cmp-IsAntisymmetric map.nat_cmp-IsAntisymmetric code e.0 c)) ∙ g) (coded_rest e es h)
    by Greater c m = both (is_coded e) (list_all is_coded (insert_entry bytes_cmp es code n)) (coded_first e es h) m

pub is_coded_at : (code : List ℕ) (n : Node) → code ≡ encoded n.key → is_key n.key ≡ true → is_coded (code, n) ≡ true
is_coded_at code n e v = both (is_key n.key) (eq_by_cmp bytes_cmp code (encoded n.key)) v (ap (λ c. eq_by_cmp bytes_cmp c (encoded n.key)) e ∙ ap is_eq (tied_itself nat_list_cmp_total (encoded n.key)))

-- what a change at one code does to the map
module _ (k : Key) (valid : is_key k ≡ true) (w : Option Node) (es fs : Entries) (coded : list_all is_coded es ≡ true) (coded_new : list_all is_coded fs ≡ true)
    (is : (c : List ℕ) → lookup (is_at (bytes_cmp c)) fs ≡ (if is_at (bytes_cmp (encoded k)) c then w else lookup (is_at (bytes_cmp c)) es)) where
  changed : (q : Key) → get (globals_of fs) q ≡ (if eq_by_cmp key_cmp q k then option_map node_value w else get (globals_of es) q)
  changed q = by (is_key q) refl
    where
      tied : is_key q ≡ true → eq_by_cmp bytes_cmp (encoded k) (encoded q) ≡ eq_by_cmp key_cmp q k
      tied v = ap is_eq (key_ordered k q valid v) ∙ (eq_by_cmp_equiv key_total).symm k q

      mapped : (b : Bool) (o : Option Node) → option_map node_value (if b then w else o) ≡ (if b then option_map node_value w else option_map node_value o)
      mapped true o = refl
      mapped false o = refl

      none : (r : Ordering) → key_cmp q k ≡ r → is_key q ≡ false → None ≡ (if is_eq r then option_map node_value w else None)
      none Less c v = refl
      none Equal c v = absurd (true≢false (sym (ap is_key (key_same q k c) ∙ valid) ∙ v))
      none Greater c v = refl

      by : (b : Bool) → is_key q ≡ b → get (globals_of fs) q ≡ (if eq_by_cmp key_cmp q k then option_map node_value w else get (globals_of es) q)
      by true v =
          get_coded q fs v coded_new ∙ ap (option_map node_value) (is (encoded q))
          ∙ ap (λ b. option_map node_value (if b then w else lookup (is_at (bytes_cmp (encoded q))) es)) (tied v)
          ∙ mapped (eq_by_cmp key_cmp q k) (lookup (is_at (bytes_cmp (encoded q))) es)
          ∙ ap (λ o. if eq_by_cmp key_cmp q k then option_map node_value w else o) (sym (get_coded q es v coded))
      by false v =
          get-from_entries key_total (entries_of fs) q ∙ none_invalid q fs v coded_new
          ∙ none (key_cmp q k) refl v
          ∙ ap (λ o. if eq_by_cmp key_cmp q k then option_map node_value w else o) (sym (get-from_entries key_total (entries_of es) q ∙ none_invalid q es v coded))

  pub set_coded : (v : List ℕ) → option_map node_value w ≡ Some v → globals_of fs ≡ insert (globals_of es) k v
  set_coded v e = same_map key_total key_same (globals_of fs) (insert (globals_of es) k v) (λ q. changed q ∙ ap (λ o. if eq_by_cmp key_cmp q k then o else get (globals_of es) q) e ∙ sym (get-insert key_total (globals_of es) k v q))

  pub remove_coded : w ≡ None → globals_of fs ≡ remove (globals_of es) k
  remove_coded e = same_map key_total key_same (globals_of fs) (remove (globals_of es) k) (λ q. changed q ∙ ap (λ o. if eq_by_cmp key_cmp q k then option_map node_value o else get (globals_of es) q) e ∙ sym (get-remove key_total (globals_of es) k q))

-- what a test of keys lets through is there where a test of codes keeps it
pub kept_filtered : (t : List ℕ → Bool) (p : Key → Bool) → ((k : Key) → p k ≡ true → t (encoded k) ≡ true) → (es : Entries) → list_all is_coded es ≡ true
    → list.filter (λ e. p e.0) (entries_of (list.filter (λ e. t e.0) es)) ≡ list.filter (λ e. p e.0) (entries_of es)
kept_filtered t p within [] h = refl
kept_filtered t p within (e ∷ es) h = by (t e.0) (p e.1.key) refl refl (kept_filtered t p within es (coded_rest e es h))
  where
    by : (a b : Bool) → t e.0 ≡ a → p e.1.key ≡ b → list.filter (λ e. p e.0) (entries_of (list.filter (λ e. t e.0) es)) ≡ list.filter (λ e. p e.0) (entries_of es)
        → list.filter (λ e. p e.0) (entries_of (if a then e ∷ list.filter (λ e. t e.0) es else list.filter (λ e. t e.0) es)) ≡ (if b then (e.1.key, e.1.value) ∷ list.filter (λ e. p e.0) (entries_of es) else list.filter (λ e. p e.0) (entries_of es))
    by true true x y m = rw y (ap (λ l. (e.1.key, e.1.value) ∷ l) m)
    by true false x y m = rw y m
    by false true x y m = absurd (true≢false (sym (ap t (coded_is e (coded_first e es h)) ∙ within e.1.key y) ∙ x))
    by false false x y m = m
