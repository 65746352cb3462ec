-- The next subscript below a node, by the first node from the first key on that can have it.
use Rattle.std.proofs.Common.{◌≡◌, ℕ, Bool, true, false, not, List, [], ◌∷◌, ◌++◌, length, drop, Option, Some, None, option_map, if◌then◌else◌, refl, sym, ap, subst, ◌∙◌, true≢false}
use Rattle.std.specs.declared.cmp.Ordering.{Ordering}
use Rattle.std.specs.declared.cmp.Ordering.TheVariants.{Less, Equal, Greater}
use Rattle.std.specs.Ordering.{is_lt, is_eq, nat_cmp, eq_by_cmp, ordering_then}
use Rattle.std.specs.Cmp.Lexicographic.{slice_cmp, nat_list_cmp_total}
use Rattle.std.specs.List.{starts_with}
use Rattle.std.specs.List as list
use Rattle.std.specs.FinMap.{get, keys, contains_key}
use Rattle.std.proofs.lemmas.Cmp.{tied_itself}
use Rattle.global_defs.specs.Key.{Key, Sub, key_cmp, sub_cmp, sub_of}
use Rattle.global_defs.specs.Entry.{Globals, is_under}
use Rattle.global_defs.specs.Evaluation.{is_below, first_sub, is_past, order}
use Rattle.global_defs.proofs.Order.{key_total, key_same, sub_total, sub_same}
use Rattle.gvn_key.specs.Faults.{child_of}
use Rattle.gvn_globals.specs.Walks.{is_later, after, from, earlier, is_behind, is_past_at, is_next, sub_under}
use Rattle.gvn_globals.specs.Overlaid.{overlaid}
use Rattle.gvn_globals.proofs.Basics.{before, same, behind, stands, less_of, both, some_of, greater}
use Rattle.gvn_globals.proofs.Firsts.{Finds, find_finds, find_is}
use Rattle.gvn_globals.proofs.Under.{names_tie, under_between, behind_not_before, below_behind, below_is_behind}
use Rattle.gvn_globals.proofs.Subtree.{later_of, later_less}
use Rattle.gvn_globals.proofs.Overlays.{get_overlaid, or_other}
use Rattle.gvn_globals.proofs.Beyond.{below_subs, subs_split, names_same, order_found, under_of_below}

same_subs : (xs ys zs : List Sub) → slice_cmp sub_cmp (xs ++ ys) (xs ++ zs) ≡ slice_cmp sub_cmp ys zs
same_subs [] ys zs = refl
same_subs (x ∷ xs) ys zs = rw (tied_itself sub_total x) (same_subs xs ys zs)

-- keys under one node stand as their subscripts below it do
under_cmp : (top a b : Key) → is_under top a ≡ true → is_under top b ≡ true → key_cmp a b ≡ slice_cmp sub_cmp (below_subs top a) (below_subs top b)
under_cmp top a b u v =
    ap (λ n. ordering_then (slice_cmp nat_cmp n b.name) (slice_cmp sub_cmp a.subs b.subs)) (sym (names_same top a u))
    ∙ ap (λ r. ordering_then r (slice_cmp sub_cmp a.subs b.subs)) (names_tie top b v)
    ∙ ap (λ xs. slice_cmp sub_cmp xs b.subs) (subs_split top a u)
    ∙ ap (λ ys. slice_cmp sub_cmp (top.subs ++ below_subs top a) ys) (subs_split top b v)
    ∙ same_subs top.subs (below_subs top a) (below_subs top b)

begun : (xs ys : List Sub) → starts_with (eq_by_cmp sub_cmp) (xs ++ ys) xs ≡ true
begun [] ys = refl
begun (x ∷ xs) ys = both (eq_by_cmp sub_cmp x x) (starts_with (eq_by_cmp sub_cmp) (xs ++ ys) xs) (ap is_eq (tied_itself sub_total x)) (begun xs ys)

behind_front : (xs ys : List Sub) → drop (length xs) (xs ++ ys) ≡ ys
behind_front [] ys = refl
behind_front (x ∷ xs) ys = behind_front xs ys

longer : (xs : List Sub) (s : Sub) → is_eq (slice_cmp sub_cmp xs (xs ++ s ∷ [])) ≡ false
longer [] s = refl
longer (x ∷ xs) s = rw (tied_itself sub_total x) (longer xs s)

module _ (top : Key) where
  pub under_child : (s : Sub) → is_under top (child_of top s) ≡ true
  under_child s = both (eq_by_cmp (slice_cmp nat_cmp) top.name top.name) (starts_with (eq_by_cmp sub_cmp) (top.subs ++ s ∷ []) top.subs) (ap is_eq (tied_itself nat_list_cmp_total top.name)) (begun top.subs (s ∷ []))

  below_child : (s : Sub) → is_below top (child_of top s) ≡ true
  below_child s = both (is_under top (child_of top s)) (not (eq_by_cmp key_cmp top (child_of top s))) (under_child s)
      (ap (λ r. not (is_eq (ordering_then r (slice_cmp sub_cmp top.subs (top.subs ++ s ∷ []))))) (tied_itself nat_list_cmp_total top.name) ∙ ap not (longer top.subs s))

  -- the first subscript of a key below the node
  pub record HasSub (k : Key) (t : Sub) : Type 0 where
    pub below : is_below top k ≡ true
    pub more : List Sub
    pub split : below_subs top k ≡ t ∷ more

  child_has : (s : Sub) → HasSub (child_of top s) s
  child_has s = record { below = below_child s; more = []; split = behind_front top.subs (s ∷ []) }

  has_under : (k : Key) (t : Sub) → HasSub k t → is_under top k ≡ true
  has_under k t h = under_of_below top k h.below

  -- a key before another has no later subscript
  not_later : (a b : Key) (s t : Sub) → HasSub a s → HasSub b t → key_cmp a b ≡ Less → is_lt (sub_cmp t s) ≡ false
  not_later a b s t h i c = by (sub_cmp t s) refl
    where
      lists : slice_cmp sub_cmp (s ∷ h.more) (t ∷ i.more) ≡ Less
      lists = ap (λ xs. slice_cmp sub_cmp xs (t ∷ i.more)) (sym h.split) ∙ ap (slice_cmp sub_cmp (below_subs top a)) (sym i.split) ∙ sym (under_cmp top a b (has_under a s h) (has_under b t i)) ∙ c

      by : (r : Ordering) → sub_cmp t s ≡ r → is_lt r ≡ false
      by Less e = absurd (true≢false (sym (ap is_lt lists) ∙ ap (λ r. is_lt (ordering_then r (slice_cmp sub_cmp h.more i.more))) (greater sub_total t s e)))
      by Equal e = refl
      by Greater e = refl

  -- the key of a subscript alone comes before no key with an earlier one, and not behind those with it
  child_first : (k : Key) (t : Sub) → HasSub k t → is_lt (key_cmp k (child_of top t)) ≡ false
  child_first k t h =
      ap is_lt (under_cmp top k (child_of top t) (has_under k t h) (under_child t))
      ∙ ap (λ xs. is_lt (slice_cmp sub_cmp xs (below_subs top (child_of top t)))) h.split
      ∙ ap (λ ys. is_lt (slice_cmp sub_cmp (t ∷ h.more) ys)) (behind_front top.subs (t ∷ []))
      ∙ ap (λ r. is_lt (ordering_then r (slice_cmp sub_cmp h.more []))) (tied_itself sub_total t)
      ∙ by h.more
    where
      by : (ts : List Sub) → is_lt (slice_cmp sub_cmp ts []) ≡ false
      by [] = refl
      by (x ∷ ts) = refl

module _ (top : Key) (last : List ℕ) where
  past_up : (bs : List ℕ) (s t : Sub) → is_past bs s ≡ true → is_lt (sub_cmp t s) ≡ false → is_past bs t ≡ true
  past_up [] s t p n = refl
  past_up (b ∷ bs) s t p n = elim (stands sub_total sub_same s t) [
    | before c ↦ ap is_lt (sub_total.trans (sub_of (b ∷ bs)) s t (less_of (sub_cmp (sub_of (b ∷ bs)) s) p) c)
    | same e ↦ ap (λ x. is_lt (sub_cmp (sub_of (b ∷ bs)) x)) (sym e) ∙ p
    | behind c ↦ absurd (true≢false (sym (ap is_lt c) ∙ n))
  ]

  record IsNext (k : Key) : Type 0 where
    pub sub : Sub
    pub has : HasSub top k sub
    pub past : is_past last sub ≡ true

  next_parts : (k : Key) → is_next top last k ≡ true → IsNext k
  next_parts k q = by (is_below top k) (below_subs top k) refl refl q
    where
      by : (b : Bool) (ss : List Sub) → is_below top k ≡ b → below_subs top k ≡ ss → is_past_at last (if b then first_sub ss else None) ≡ true → IsNext k
      by true [] e split q = absurd (true≢false (sym q))
      by true (s ∷ ss) e split q = record { sub = s; has = record { below = e; more = ss; split = split }; past = q }
      by false ss e split q = absurd (true≢false (sym q))

  next_of : (k : Key) (s : Sub) → HasSub top k s → is_past last s ≡ true → is_next top last k ≡ true
  next_of k s h p = ap (λ b. is_past_at last (if b then first_sub (below_subs top k) else None)) h.below ∙ ap (λ ss. is_past_at last (first_sub ss)) h.split ∙ p

  next_under : (k : Key) → is_next top last k ≡ true → is_under top k ≡ true
  next_under k q = has_under top k (next_parts k q).sub (next_parts k q).has

  -- no node with a later subscript stands before the key, which has one itself
  abbrev pub Starts : Globals → Option Key → Type 0
  Starts g None = (j : Key) → is_next top last j ≡ true → get g j ≡ None
  Starts g (Some c) = (is_next top last c ≡ true) × ((j : Key) → is_next top last j ≡ true → key_cmp j c ≡ Less → get g j ≡ None)

  starts_found : (g : Globals) (r : Option Key) → Finds key_cmp (get g) (get g) (is_next top last) r → Starts g (option_map (child_of top) (sub_under top r))
  starts_found g None f = f
  starts_found g (Some k) f = subst (λ o. Starts g (option_map (child_of top) o)) (sym found) (next_of (child_of top parts.sub) parts.sub (child_has top parts.sub) parts.past, λ j q c. f.least j q (first j c))
    where
      parts : IsNext k
      parts = next_parts k f.passes

      found : sub_under top (Some k) ≡ Some parts.sub
      found = ap (λ b. if b then first_sub (below_subs top k) else None) (has_under top k parts.sub parts.has) ∙ ap first_sub parts.has.split

      first : (j : Key) → key_cmp j (child_of top parts.sub) ≡ Less → key_cmp j k ≡ Less
      first j c = elim (stands key_total key_same (child_of top parts.sub) k) [
        | before d ↦ key_total.trans j (child_of top parts.sub) k c d
        | same e ↦ ap (key_cmp j) (sym e) ∙ c
        | behind d ↦ absurd (true≢false (sym (ap is_lt d) ∙ child_first top k parts.sub parts.has))
      ]

  starts_next : (g : Globals) → Starts g (option_map (child_of top) (order g top last))
  starts_next g = subst (λ o. Starts g (option_map (child_of top) o)) (sym (order_found top last (keys g)))
      (starts_found g (list.find (is_next top last) (keys g)) (find_finds key_total key_same g (is_next top last)))

  module _ (base sets gone : Globals) where
    neither : (j : Key) → get sets j ≡ None → get base j ≡ None → get (overlaid base sets gone) j ≡ None
    neither j a b = get_overlaid base sets gone j ∙ ap (λ o. or_other o (if contains_key gone j then None else get base j)) a ∙ ap (λ o. if contains_key gone j then None else o) b ∙ by (contains_key gone j)
      where
        by : (b : Bool) → ◌≡◌ {A = Option (List ℕ)} (if b then None else None) None
        by true = refl
        by false = refl

    starts_joined : (a b : Option Key) → Starts sets a → Starts base b → Starts (overlaid base sets gone) (earlier a b)
    starts_joined None None f g = λ j q. neither j (f j q) (g j q)
    starts_joined None (Some k) f g = (g.0, λ j q c. neither j (f j q) (g.1 j q c))
    starts_joined (Some k) None f g = (f.0, λ j q c. neither j (f.1 j q c) (g j q))
    starts_joined (Some k) (Some m) f g = by (is_lt (key_cmp m k)) refl
      where
        above : (j : Key) → is_lt (key_cmp m k) ≡ false → key_cmp j k ≡ Less → key_cmp j m ≡ Less
        above j e c = elim (stands key_total key_same k m) [
          | before d ↦ key_total.trans j k m c d
          | same i ↦ ap (key_cmp j) (sym i) ∙ c
          | behind d ↦ absurd (true≢false (sym (ap is_lt d) ∙ e))
        ]

        by : (b : Bool) → is_lt (key_cmp m k) ≡ b → Starts (overlaid base sets gone) (if b then Some m else Some k)
        by true e = (g.0, λ j q c. neither j (f.1 j q (key_total.trans j m k c (less_of (key_cmp m k) e))) (g.1 j q c))
        by false e = (f.0, λ j q c. neither j (f.1 j q c) (g.1 j q (above j e c)))

    starts_overlaid : Starts (overlaid base sets gone) (earlier (option_map (child_of top) (order sets top last)) (option_map (child_of top) (order base top last)))
    starts_overlaid = starts_joined (option_map (child_of top) (order sets top last)) (option_map (child_of top) (order base top last)) (starts_next sets) (starts_next base)

    pub record IsStart (o : Globals) (first : Option Key) : Type 0 where
      pub starts : Starts o first

    pub start_is : (o : Globals) → overlaid base sets gone ≡ o → (own other first : Option Key)
        → own ≡ option_map (child_of top) (order sets top last) → other ≡ option_map (child_of top) (order base top last) → first ≡ earlier own other → IsStart o first
    start_is o e own other first f g h = record {
      starts = subst (λ m. Starts m first) e
          (subst (Starts (overlaid base sets gone)) (sym (h ∙ ap (λ a. earlier a other) f ∙ ap (earlier (option_map (child_of top) (order sets top last))) g)) starts_overlaid);
    }

  module _ (o : Globals) where
    found_is : (r : Option Key) → Finds key_cmp (get o) (get o) (is_next top last) r → sub_under top r ≡ order o top last
    found_is r f = sym (order_found top last (keys o) ∙ ap (sub_under top) (find_is key_total key_same o (is_next top last) r f))

    pub none_next : Starts o None → None ≡ order o top last
    none_next f = found_is None f

    module _ (c : Key) (starts : Starts o (Some c)) where
      pub start_under : is_under top c ≡ true
      start_under = next_under c starts.0

      low : (j : Key) → contains_key o c ≡ false → is_next top last j ≡ true → (is_later c j ≡ true → get o j ≡ None) → get o j ≡ None
      low j e q none = elim (stands key_total key_same j c) [
        | before d ↦ starts.1 j q d
        | same i ↦ ap (get o) i ∙ some_of (get o c) e
        | behind d ↦ none (later_of top c j (names_tie top c start_under) (names_tie top j (next_under j q)) d)
      ]

      follows : (k : Key) → is_later c k ≡ true → is_behind top k ≡ true
      follows k l = ap is_lt (key_total.trans top c k (less_of (key_cmp top c) (below_is_behind top c (next_parts c starts.0).has.below)) (later_less c k l))

      also_next : (k : Key) → is_later c k ≡ true → is_under top k ≡ true → is_next top last k ≡ true
      also_next k l u = by (below_subs top k) refl
        where
          parts : IsNext c
          parts = next_parts c starts.0

          lists : slice_cmp sub_cmp (parts.sub ∷ parts.has.more) (below_subs top k) ≡ Less
          lists = ap (λ xs. slice_cmp sub_cmp xs (below_subs top k)) (sym parts.has.split) ∙ sym (under_cmp top c k start_under u) ∙ later_less c k l

          by : (ts : List Sub) → below_subs top k ≡ ts → is_next top last k ≡ true
          by [] e = absurd (true≢false (sym (ap is_lt lists) ∙ ap (λ ts. is_lt (slice_cmp sub_cmp (parts.sub ∷ parts.has.more) ts)) e))
          by (t ∷ ts) e =
              let has : HasSub top k t = record { below = below_behind top k (follows k l) ∙ u; more = ts; split = e } in
              next_of k t has (past_up last parts.sub t parts.past (not_later top c k parts.sub t parts.has has (later_less c k l)))

      none_from : (k : Key) → is_later c k ≡ true → is_under top k ≡ false → (j : Key) → is_next top last j ≡ true → (key_cmp j k ≡ Less → get o j ≡ None) → get o j ≡ None
      none_from k l n j q least = elim (stands key_total key_same j k) [
        | before d ↦ least d
        | same i ↦ absurd (true≢false (sym (next_under j q) ∙ ap (is_under top) i ∙ n))
        | behind d ↦ absurd (true≢false (sym (under_between top k j (behind_not_before top k (follows k l)) d (next_under j q)) ∙ n))
      ]

      past_start : contains_key o c ≡ false → (r : Option Key) → Finds key_cmp (get o) (get o) (is_later c) r → sub_under top r ≡ order o top last
      past_start e None f = found_is None (λ j q. low j e q (λ l. f j l))
      past_start e (Some k) f = by (is_under top k) refl
        where
          by : (u : Bool) → is_under top k ≡ u → (if u then first_sub (below_subs top k) else None) ≡ order o top last
          by true u = sym (ap (λ b. if b then first_sub (below_subs top k) else None) u) ∙ found_is (Some k) (record { passes = also_next k f.passes u; here = f.here; least = λ j q d. low j e q (λ l. f.least j l d) })
          by false u = found_is None (λ j q. none_from k f.passes u j q (λ d. low j e q (λ l. f.least j l d)))

      pub from_next : sub_under top (from o c) ≡ order o top last
      from_next = by (contains_key o c) refl
        where
          by : (b : Bool) → contains_key o c ≡ b → sub_under top (if b then Some c else after o c) ≡ order o top last
          by true e = found_is (Some c) (record { passes = starts.0; here = e; least = starts.1 })
          by false e = past_start e (after o c) (find_finds key_total key_same o (is_later c))
