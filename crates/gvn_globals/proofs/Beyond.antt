-- The next subscript below a node, by the first node past the last one.
use Rattle.std.proofs.Common.{◌≡◌, ℕ, zero, suc, pos, negsuc, ◌<◌, ◌≤◌, ◌+◌, Bool, true, false, not, List, [], ◌∷◌, ◌++◌, map, length, drop, get_or, is_some, Option, Some, None, if◌then◌else◌, refl, sym, ap, ◌∙◌, true≢false, arith, append_assoc, append-nil}
use Rattle.std.specs.declared.cmp.Ordering.{Ordering}
use Rattle.std.specs.declared.cmp.Ordering.TheVariants.{Less, Equal, Greater}
use Rattle.std.specs.Ordering.{is_lt, is_le, is_eq, eq_by_cmp, nat_cmp, ordering_then}
use Rattle.std.specs.Cmp.{first_so, second_so, nat_cmp_total}
use Rattle.std.specs.Cmp.Lexicographic.{slice_cmp}
use Rattle.std.specs.List.{starts_with, flat_map, filter_map, list_all}
use Rattle.std.specs.List as list
use Rattle.std.specs.FinMap as map
use Rattle.std.specs.FinMap.{get, keys}
use Rattle.std.proofs.lemmas.Cmp.{tied_itself}
use Rattle.std.proofs.lemmas.Grind.{flat_map-append}
use Rattle.std.proofs.lemmas.Bool.{le-leb}
use Rattle.std.proofs.Math.ListN.{length-append}
use Rattle.global_defs.specs.Key.{Key, Sub, Number, Text, key_cmp, sub_cmp, sub_of}
use Rattle.global_defs.specs.Encoded.{encoded, encoded_sub}
use Rattle.global_defs.specs.Entry.{Globals, is_under}
use Rattle.global_defs.specs.Valid.{is_key, is_sub}
use Rattle.global_defs.specs.Evaluation.{is_below, first_sub, sub_at, is_past, order}
use Rattle.global_defs.proofs.Fronts.{same_front}
use Rattle.global_defs.proofs.Order.{key_total, key_same, sub_same}
use Rattle.global_defs.proofs.KeyOrder.{key_ordered}
use Rattle.global_defs.proofs.SubOrder.{sub_code}
use Rattle.global_defs.proofs.ValidKeys.{valid_parts}
use Rattle.global_defs.proofs.Numerals.{sub_made}
use Rattle.gvn_key.specs.Faults.{child_of}
use Rattle.gvn_globals.specs.Nodes.{is_between}
use Rattle.gvn_globals.specs.Walks.{tested, is_behind, is_beyond, sub_under, is_past_at, is_next}
use Rattle.gvn_globals.proofs.Basics.{less_of, equal_of, both}
use Rattle.gvn_globals.proofs.Firsts.{Finds, IsFirst, find_finds, find_decided}
use Rattle.gvn_globals.proofs.Under.{names_tie, subs_begin, under_between, behind_not_before, below_behind, below_is_behind}

rest_of : (xs ys : List Sub) → starts_with (eq_by_cmp sub_cmp) ys xs ≡ true → ys ≡ xs ++ drop (length xs) ys
rest_of [] ys h = refl
rest_of (x ∷ xs) [] h = absurd (true≢false (sym h))
rest_of (x ∷ xs) (y ∷ ys) h =
    let one : x ≡ y = sub_same x y (equal_of (sub_cmp x y) (first_so (eq_by_cmp sub_cmp x y) (starts_with (eq_by_cmp sub_cmp) ys xs) h)) in
    λ i. sym one i ∷ rest_of xs ys (second_so (eq_by_cmp sub_cmp x y) (starts_with (eq_by_cmp sub_cmp) ys xs) h) i

-- the subscripts of a key below those of the top one
abbrev pub below_subs : Key → Key → List Sub
below_subs top k = drop (length top.subs) k.subs

pub subs_split : (top k : Key) → is_under top k ≡ true → k.subs ≡ top.subs ++ below_subs top k
subs_split top k u = rest_of top.subs k.subs (subs_begin top k u)

pub names_same : (top k : Key) → is_under top k ≡ true → top.name ≡ k.name
names_same top k u = map.slice_cmp-IsAntisymmetric map.nat_cmp-IsAntisymmetric top.name k.name (names_tie top k u)

pub code_split : (top k : Key) → is_under top k ≡ true → encoded k ≡ encoded top ++ flat_map encoded_sub (below_subs top k)
code_split top k u =
    let code : flat_map encoded_sub k.subs ≡ flat_map encoded_sub top.subs ++ flat_map encoded_sub (below_subs top k) = ap (flat_map encoded_sub) (subs_split top k u) ∙ flat_map-append encoded_sub top.subs (below_subs top k) in
    (λ i. sym (names_same top k u) i ++ (0 ∷ code i)) ∙ sym (append_assoc top.name (0 ∷ flat_map encoded_sub top.subs) (flat_map encoded_sub (below_subs top k)))

front_before : (xs zs ys : List ℕ) → 0 < length zs → slice_cmp nat_cmp (xs ++ zs) ys ≡ Less → slice_cmp nat_cmp xs ys ≡ Less
front_before [] [] ys some c = absurd (omega arith)
front_before [] (z ∷ zs) [] some c = absurd (true≢false (sym (ap is_lt c)))
front_before [] (z ∷ zs) (y ∷ ys) some c = refl
front_before (x ∷ xs) zs [] some c = absurd (true≢false (sym (ap is_lt c)))
front_before (x ∷ xs) zs (y ∷ ys) some c = by (nat_cmp x y) c (front_before xs zs ys some)
  where
    by : (r : Ordering) → ordering_then r (slice_cmp nat_cmp (xs ++ zs) ys) ≡ Less → (slice_cmp nat_cmp (xs ++ zs) ys ≡ Less → slice_cmp nat_cmp xs ys ≡ Less) → ordering_then r (slice_cmp nat_cmp xs ys) ≡ Less
    by Less d m = refl
    by Equal d m = m d
    by Greater d m = absurd (true≢false (sym (ap is_lt d)))

-- no encoded subscript begins with so large a byte
end_behind : (ss : List Sub) → is_lt (slice_cmp nat_cmp (255 ∷ []) (flat_map encoded_sub ss)) ≡ false
end_behind [] = refl
end_behind (Number (pos zero) ∷ ss) = refl
end_behind (Number (pos (suc n)) ∷ ss) = refl
end_behind (Number (negsuc n) ∷ ss) = refl
end_behind (Text s ∷ ss) = refl

abbrev is_past_first : Sub → List Sub → Bool
is_past_first s [] = false
is_past_first s (t ∷ ts) = is_lt (sub_cmp s t)

more_behind : (a b : List ℕ) → 0 < length a → is_lt (slice_cmp nat_cmp (a ++ b) []) ≡ false
more_behind [] b h = absurd (omega arith)
more_behind (x ∷ a) b h = refl

-- below a node the bytes past a subscript come before just the nodes with a later one
past_code : (s : Sub) (ss : List Sub) → is_sub s ≡ true → list_all is_sub ss ≡ true → is_lt (slice_cmp nat_cmp (encoded_sub s ++ 255 ∷ []) (flat_map encoded_sub ss)) ≡ is_past_first s ss
past_code s [] v h = more_behind (encoded_sub s) (255 ∷ []) (sub_code.some s v)
past_code s (t ∷ ts) v h =
    ap is_lt (sub_code.first s t v (first_so (is_sub t) (list_all is_sub ts) h) (255 ∷ []) (flat_map encoded_sub ts))
    ∙ by (sub_cmp s t)
  where
    by : (r : Ordering) → is_lt (ordering_then r (slice_cmp nat_cmp (255 ∷ []) (flat_map encoded_sub ts))) ≡ is_lt r
    by Less = refl
    by Equal = end_behind ts
    by Greater = refl

all_behind : (xs ys : List Sub) → list_all is_sub (xs ++ ys) ≡ true → list_all is_sub ys ≡ true
all_behind [] ys h = h
all_behind (x ∷ xs) ys h = all_behind xs ys (second_so (is_sub x) (list_all is_sub (xs ++ ys)) h)

below_valid : (top k : Key) → is_under top k ≡ true → is_key k ≡ true → list_all is_sub (below_subs top k) ≡ true
below_valid top k u v = all_behind top.subs (below_subs top k) (ap (list_all is_sub) (sym (subs_split top k u)) ∙ (valid_parts k v).subs)

pub beyond_under : (top : Key) (s : Sub) (k : Key) → is_sub s ≡ true → is_key k ≡ true → is_under top k ≡ true → is_beyond top s k ≡ is_past_first s (below_subs top k)
beyond_under top s k vs v u =
    ap (λ c. is_lt (slice_cmp nat_cmp c (encoded k))) (append_assoc (encoded top) (encoded_sub s) (255 ∷ []))
    ∙ ap (λ c. is_lt (slice_cmp nat_cmp (encoded top ++ (encoded_sub s ++ 255 ∷ [])) c)) (code_split top k u)
    ∙ ap is_lt (same_front (encoded top) (encoded_sub s ++ 255 ∷ []) (flat_map encoded_sub (below_subs top k)))
    ∙ past_code s (below_subs top k) vs (below_valid top k u v)

pub beyond_behind : (top : Key) (s : Sub) (k : Key) → is_sub s ≡ true → is_key top ≡ true → is_key k ≡ true → is_beyond top s k ≡ true → is_behind top k ≡ true
beyond_behind top s k vs vt v h =
    ap is_lt (sym (key_ordered top k vt v)
    ∙ front_before (encoded top) (encoded_sub s ++ 255 ∷ []) (encoded k) (omega (arith, length-append (encoded_sub s) (255 ∷ []), sub_code.some s vs)) (ap (λ c. slice_cmp nat_cmp c (encoded k)) (sym (append_assoc (encoded top) (encoded_sub s) (255 ∷ []))) ∙ less_of (slice_cmp nat_cmp (encoded top ++ encoded_sub s ++ 255 ∷ []) (encoded k)) h))

at_below : (top k : Key) (s : Sub) → sub_at top k ≡ Some s → (is_below top k ≡ true) × (first_sub (below_subs top k) ≡ Some s)
at_below top k s e = by (is_below top k) refl e
  where
    by : (b : Bool) → is_below top k ≡ b → (if b then first_sub (below_subs top k) else None) ≡ Some s → (is_below top k ≡ true) × (first_sub (below_subs top k) ≡ Some s)
    by true t e = (t, e)
    by false t e = absurd (true≢false (ap is_some (sym e)))

pub under_of_below : (top k : Key) → is_below top k ≡ true → is_under top k ≡ true
under_of_below top k h = first_so (is_under top k) (not (eq_by_cmp key_cmp top k)) h

-- the subscript that is asked for is that of the first such key
pub order_found : (top : Key) (last : List ℕ) (ks : List Key) → list.find (is_past last) (filter_map (sub_at top) ks) ≡ sub_under top (list.find (is_next top last) ks)
order_found top last [] = refl
order_found top last (k ∷ ks) = by (sub_at top k) refl (order_found top last ks)
  where
    by : (o : Option Sub) → sub_at top k ≡ o → list.find (is_past last) (filter_map (sub_at top) ks) ≡ sub_under top (list.find (is_next top last) ks)
        → list.find (is_past last) (list.cons_option o (filter_map (sub_at top) ks)) ≡ sub_under top (if is_past_at last o then Some k else list.find (is_next top last) ks)
    by None e m = m
    by (Some s) e m = by_past (is_past last s)
      where
        by_past : (b : Bool) → (if b then Some s else list.find (is_past last) (filter_map (sub_at top) ks)) ≡ sub_under top (if b then Some k else list.find (is_next top last) ks)
        by_past true = sym (ap (λ u. if u then first_sub (below_subs top k) else None) (under_of_below top k (at_below top k s e).0) ∙ (at_below top k s e).1)
        by_past false = m

pub next_is_below : (top : Key) (last : List ℕ) (k : Key) → is_next top last k ≡ true → is_below top k ≡ true
next_is_below top last k q = by (is_below top k) refl q
  where
    by : (b : Bool) → is_below top k ≡ b → is_past_at last (if b then first_sub (below_subs top k) else None) ≡ true → b ≡ true
    by true t q = refl
    by false t q = absurd (true≢false (sym q))

-- below a node a test of keys that comes after the node decides as the next subscript does
module _ (top : Key) (last : List ℕ) (g : Globals) (p : Key → Bool)
    (follows : (k : Key) → is_some (get g k) ≡ true → p k ≡ true → is_behind top k ≡ true)
    (agrees : (k : Key) → is_some (get g k) ≡ true → is_below top k ≡ true → p k ≡ is_next top last k) where
  next_below : (k : Key) → is_next top last k ≡ true → is_below top k ≡ true
  next_below k q = next_is_below top last k q

  within : (k : Key) → is_some (get g k) ≡ true → is_next top last k ≡ true → p k ≡ true
  within k s q = agrees k s (next_below k q) ∙ q

  upward : (a b : Key) → is_some (get g a) ≡ true → is_some (get g b) ≡ true → p a ≡ true → is_next top last b ≡ true → key_cmp a b ≡ Less → is_next top last a ≡ true
  upward a b s t pa q c =
      let behind : is_behind top a ≡ true = follows a s pa in
      let under : is_under top a ≡ true = under_between top a b (behind_not_before top a behind) c (under_of_below top b (next_below b q)) in
      sym (agrees a s (below_behind top a behind ∙ under)) ∙ pa

  -- the first key that passes tells the next subscript
  pub order_first : sub_under top (list.find p (keys g)) ≡ order g top last
  order_first =
      by (list.find p (keys g)) (find_finds key_total key_same g p)
      ∙ ap (sub_under top) (sym (find_decided key_total key_same g p (is_next top last) within upward))
      ∙ sym (order_found top last (keys g))
    where
      by_next : (k : Key) (u b : Bool) → is_under top k ≡ u → is_next top last k ≡ b → IsFirst key_cmp (get g) (get g) p k → (if u then first_sub (below_subs top k) else None) ≡ sub_under top (if b then Some k else None)
      by_next k true true h n f = sym (ap (λ u. if u then first_sub (below_subs top k) else None) h)
      by_next k true false h n f = absurd (true≢false (sym f.passes ∙ agrees k f.here (below_behind top k (follows k f.here f.passes) ∙ h) ∙ n))
      by_next k false true h n f = absurd (true≢false (sym (under_of_below top k (next_below k n)) ∙ h))
      by_next k false false h n f = refl

      by : (r : Option Key) → Finds key_cmp (get g) (get g) p r → sub_under top r ≡ sub_under top (tested (is_next top last) r)
      by None f = refl
      by (Some k) f = by_next k (is_under top k) (is_next top last k) refl refl f

-- the first key past the node tells its first child
module _ (top : Key) (g : Globals) where
  below_some : (k : Key) → is_below top k ≡ true → (ss : List Sub) → below_subs top k ≡ ss → is_some (first_sub ss) ≡ true
  below_some k h [] e =
      let under : is_under top k ≡ true = under_of_below top k h in
      let subs : top.subs ≡ k.subs = sym (subs_split top k under ∙ ap (λ ss. top.subs ++ ss) e ∙ append-nil top.subs) in
      let one : top ≡ k = λ i. record { name = names_same top k under i; subs = subs i } in
      absurd (true≢false (sym (second_so (is_under top k) (not (eq_by_cmp key_cmp top k)) h) ∙ ap (λ x. not (is_eq (key_cmp top x))) (sym one) ∙ ap (λ r. not (is_eq r)) (tied_itself key_total top)))
  below_some k h (s ∷ ss) e = refl

  past_any : (o : Option Sub) → is_some o ≡ true → is_past_at [] o ≡ true
  past_any None e = absurd (true≢false (sym e))
  past_any (Some s) e = refl

  pub begins_next : (k : Key) → is_below top k ≡ true → is_next top [] k ≡ true
  begins_next k h = ap (λ b. is_past_at [] (if b then first_sub (below_subs top k) else None)) h ∙ past_any (first_sub (below_subs top k)) (below_some k h (below_subs top k) refl)

  pub order_begins : sub_under top (list.find (is_behind top) (keys g)) ≡ order g top []
  order_begins = order_first top [] g (is_behind top) (λ k s p. p) (λ k s h. below_is_behind top k h ∙ sym (begins_next k h))

same_past : (bs : List ℕ) → 0 < length bs → (ss : List Sub) → is_past_first (sub_of bs) ss ≡ is_past_at bs (first_sub ss)
same_past [] h ss = absurd (omega arith)
same_past (b ∷ bs) h [] = refl
same_past (b ∷ bs) h (s ∷ ss) = refl

-- below a node the bytes past a subscript come before just the keys with a later one
pub continues_next : (top : Key) (last : List ℕ) (k : Key) → 0 < length last → is_key k ≡ true → is_below top k ≡ true → is_beyond top (sub_of last) k ≡ is_next top last k
continues_next top last k some v h =
    beyond_under top (sub_of last) k (sub_made last some) v (under_of_below top k h) ∙ same_past last some (below_subs top k)
    ∙ sym (ap (λ b. is_past_at last (if b then first_sub (below_subs top k) else None)) h)

-- the first key past all with a subscript tells the next one
module _ (top : Key) (last : List ℕ) (g : Globals) (some : 0 < length last) (valid : is_key top ≡ true) (each_valid : (k : Key) → is_some (get g k) ≡ true → is_key k ≡ true) where
  pub order_continues : sub_under top (list.find (is_beyond top (sub_of last)) (keys g)) ≡ order g top last
  order_continues = order_first top last g (is_beyond top (sub_of last))
      (λ k s p. beyond_behind top (sub_of last) k (sub_made last some) valid (each_valid k s) p)
      (λ k s h. continues_next top last k some (each_valid k s) h)

-- ---- the codes of the keys under a node stand between its own and the same with a great byte behind

end_past : (ss : List Sub) → is_le (slice_cmp nat_cmp (255 ∷ []) (flat_map encoded_sub ss)) ≡ false
end_past [] = refl
end_past (Number (pos zero) ∷ ss) = refl
end_past (Number (pos (suc n)) ∷ ss) = refl
end_past (Number (negsuc n) ∷ ss) = refl
end_past (Text s ∷ ss) = refl

none_before : (ys : List ℕ) → is_le (slice_cmp nat_cmp [] ys) ≡ true
none_before [] = refl
none_before (y ∷ ys) = refl

pub end_behind_code : (xs : List ℕ) → slice_cmp nat_cmp xs (xs ++ 255 ∷ []) ≡ Less
end_behind_code [] = refl
end_behind_code (x ∷ xs) = rw (tied_itself nat_cmp_total x) (end_behind_code xs)

pub under_codes : (top k : Key) → is_under top k ≡ true → is_between (encoded top) (encoded top ++ 255 ∷ []) (encoded k) ≡ true
under_codes top k u =
    let from : is_le (slice_cmp nat_cmp (encoded top) (encoded k)) ≡ true =
    ap (λ c. is_le (slice_cmp nat_cmp (encoded top) c)) (code_split top k u)
    ∙ ap (λ c. is_le (slice_cmp nat_cmp c (encoded top ++ flat_map encoded_sub (below_subs top k)))) (sym (append-nil (encoded top)))
    ∙ ap is_le (same_front (encoded top) [] (flat_map encoded_sub (below_subs top k)))
    ∙ none_before (flat_map encoded_sub (below_subs top k)) in
    let to : is_le (slice_cmp nat_cmp (encoded top ++ 255 ∷ []) (encoded k)) ≡ false =
    ap (λ c. is_le (slice_cmp nat_cmp (encoded top ++ 255 ∷ []) c)) (code_split top k u)
    ∙ ap is_le (same_front (encoded top) (255 ∷ []) (flat_map encoded_sub (below_subs top k)))
    ∙ end_past (below_subs top k) in
    both (is_le (slice_cmp nat_cmp (encoded top) (encoded k))) (not (is_le (slice_cmp nat_cmp (encoded top ++ 255 ∷ []) (encoded k)))) from (ap not to)
