-- Regions that become others, one after the other.
use Rattle.std.proofs.Common.{◌≡◌, inl, inr, ℕ, zero, suc, ◌+◌, ◌<◌, ◌≤◌, Bool, true, false, List, [], ◌∷◌, ◌++◌, length, take, drop, fold, slice_get, slice_set, Option, Some, IfSome, refl, sym, ◌∙◌, ap, subst, arith, append-nil}
use Rattle.std.specs.Prelude.{nat_lt, slice_index, if◌then◌else◌}
use Rattle.std.proofs.lemmas.Bool.{cases_eq, cases_lt}
use Rattle.std.proofs.lemmas.Bool.Decides.{nat_tests}
use Rattle.std.proofs.lemmas.Grind.{flat_map-append}
use Rattle.std.proofs.lemmas.List.{take_more, drop_all, drop-append-le, length-take-le}
use Rattle.std.proofs.lemmas.Option.{get_or_from_slice_get, slice_get_past, slice_get_within}
use Rattle.disk_defs.specs.Disk.{Files}
use Rattle.disk_defs.proofs.Told.{both_weak}
use Rattle.global_defs.specs.Entry.{Entry, Globals, Reign, Sequence, Update, apply}
use Rattle.journal_defs.specs.Directory.{Pattern}
use Rattle.block_laws.specs.Nodes.{updates_in, updates_of}
use Rattle.region_store.specs.Region.{Standing, IsChanged}
use Rattle.jnl_file.proofs.Newer.{all_told}
use Rattle.entry_index.specs.declared.index.EntryIndex.{EntryIndex}
use Rattle.entry_index.specs.Indexes.{Indexes}
use Rattle.region_store.proofs.Lists.{get-set_same, get-set_other, there}
use Rattle.region_opening.specs.Opening.{are_home}
use Rattle.region_opening.specs.Replaying.{AreBecome, updates_behind, IsGivenEntry, IsGivenUpTo}
use Rattle.region_opening.proofs.Homes.{stay_home}
use Rattle.region_opening.proofs.Replays.{changed_then, both_made}
use Rattle.entry_index.specs.Parts.{InFiles}
use Rattle.region_store.proofs.Making.{unchanged}

-- ---- lists of regions

length-slice_set : {X : Type 0} (xs : List X) (i : ℕ) (x : X) → length (slice_set xs i x) ≡ length xs
length-slice_set [] i x = refl
length-slice_set (y ∷ ys) zero x = refl
length-slice_set (y ∷ ys) (suc i) x = ap suc (length-slice_set ys i x)

one_element : {X : Type 0} (x y : X) → Some x ≡ Some y → x ≡ y
one_element x y is = cc

less : (r k : ℕ) → r < k + 1 → (r ≡ k → ⊥) → r < k
less r k below other = elim (cases_lt r k) [
  | inl low ↦ low
  | inr past ↦ absurd (other (omega (arith, below, past)))
]

above : (r k : ℕ) → k + 1 ≤ r → r ≡ k → ⊥
above r k past same = omega (arith, past, same)

module _ (So : ℕ → Standing → Standing → Type 0) where
  pub none_become : (rs : List Standing) → AreBecome So 0 rs rs
  none_become rs = record { count = refl; each = λ r s m low. absurd (omega (arith, low)); rest = λ r past. refl }

  -- the next region becomes another
  pub next_becomes : (k : ℕ) (old mid new : List Standing) (s m : Standing) → AreBecome So k old mid → k < length mid → slice_get mid k ≡ Some s → new ≡ slice_set mid k m → So k s m → AreBecome So (k + 1) old new
  next_becomes k old mid new s m before low here is so = subst (AreBecome So (k + 1) old) (sym is) (record {
    count = length-slice_set mid k m ∙ before.count;
    each = λ r t u below at now. elim (cases_eq r k) [
      | inl same ↦
          let first : s ≡ t = one_element s t (sym here ∙ before.rest k (omega arith) ∙ ap (slice_get old) (sym same) ∙ at) in
          let second : m ≡ u = one_element m u (sym (get-set_same mid k m low) ∙ ap (slice_get (slice_set mid k m)) (sym same) ∙ now) in
          subst (λ (x : Standing). So r t x) second (subst (λ (x : Standing). So r x m) first (subst (λ (q : ℕ). So q s m) (sym same) so))
      | inr other ↦
          let fewer : r < k = less r k below other in
          before.each r t u fewer at (sym (get-set_other mid k r m other) ∙ now)
    ];
    rest = λ r past. let other : r ≡ k → ⊥ = above r k past in get-set_other mid k r m other ∙ before.rest r (omega (arith, past));
  })

  -- where none is behind, all became others
  pub all_become : (k : ℕ) (old new : List Standing) → length old ≤ k → AreBecome So k old new → AreBecome So (length old) old new
  all_become k old new long are = record {
    count = are.count;
    each = λ r s m low at now. are.each r s m (omega (arith, low, long)) at now;
    rest = λ r past. let many = are.count in slice_get_past new r (omega (arith, past, many)) ∙ sym (slice_get_past old r past);
  }

-- two steps, one after the other
pub become_then : (First Second Both : ℕ → Standing → Standing → Type 0) (n k : ℕ) (old mid new : List Standing) → n ≡ length old → k ≡ length mid → ((r : ℕ) (s m w : Standing) → First r s m → Second r m w → Both r s w)
    → AreBecome First n old mid → AreBecome Second k mid new → AreBecome Both n old new
become_then First Second Both n k old mid new whole long step first second = record {
  count = second.count ∙ first.count;
  each = λ r s w low at now.
      let many = first.count in
      let m = there mid r (omega (arith, low, whole, many)) in
      step r s m.0 w (first.each r s m.0 low at m.1) (second.each r m.0 w (omega (arith, low, whole, many, long)) m.1 now);
  rest = λ r past. let many = first.count in second.rest r (omega (arith, past, whole, many, long)) ∙ first.rest r past;
}

-- ---- updates of entries

-- behind the number from which a region is opened are those of one entry more, where it is
updates_more : (f n : ℕ) (seq : Sequence) (e : Entry) → slice_get seq n ≡ Some e
    → updates_of (drop f (take (n + 1) seq)) ≡ updates_of (drop f (take n seq)) ++ updates_behind f (n + 1) e.transaction.updates
updates_more f n seq e here = by (nat_lt f (n + 1)) refl
  where
    low : n < length seq
    low = slice_get_within seq n e here

    long : length (take n seq) ≡ n
    long = length-take-le n seq (omega (arith, low))

    all : take (n + 1) seq ≡ take n seq ++ e ∷ []
    all = take_more seq n e low ∙ ap (λ (x : Entry). take n seq ++ x ∷ []) (get_or_from_slice_get seq n e e here)

    by : (b : Bool) → nat_lt f (n + 1) ≡ b → updates_of (drop f (take (n + 1) seq)) ≡ updates_of (drop f (take n seq)) ++ updates_behind f (n + 1) e.transaction.updates
    by true is =
        let within : f ≤ length (take n seq) = let less : f < n + 1 = grind (arith, nat_tests, is) in omega (arith, less, long) in
        ap (λ (es : Sequence). updates_of (drop f es)) all ∙ ap updates_of (drop-append-le f (take n seq) (e ∷ []) within)
        ∙ flat_map-append (λ (x : Entry). x.transaction.updates) (drop f (take n seq)) (e ∷ [])
        ∙ ap (λ (us : List Update). updates_of (drop f (take n seq)) ++ us) (append-nil e.transaction.updates)
        ∙ sym (ap (λ (b : Bool). updates_of (drop f (take n seq)) ++ (if b then e.transaction.updates else [])) is)
    by false is =
        let past : n + 1 ≤ f = grind (arith, nat_tests, is) in
        let more : length (take (n + 1) seq) ≤ f = let size : length (take (n + 1) seq) ≡ n + 1 = length-take-le (n + 1) seq (omega (arith, low)) in omega (arith, size, past) in
        ap updates_of (drop_all f (take (n + 1) seq) more)
        ∙ sym (ap (λ (es : Sequence). updates_of es ++ updates_behind f (n + 1) e.transaction.updates) (drop_all f (take n seq) (omega (arith, long, past)))
        ∙ ap (λ (b : Bool). ◌++◌ {A = Update} [] (if b then e.transaction.updates else [])) is)

-- the updates of one entry
module _ (ps : List Pattern) (from : List ℕ) (n : ℕ) (us : List Update) (r : ℕ) (s m : Standing) where
  -- in a region that is opened from before it
  pub given_here : slice_index from r < n → IsChanged s m → m.globals ≡ fold apply s.globals (updates_in ps r us) → IsGivenEntry ps from n us r s m
  given_here before changed made =
      let is : nat_lt (slice_index from r) n ≡ true = grind (arith, nat_tests, before) in
      record { changed = changed; made = made ∙ sym (ap (λ (b : Bool). fold apply s.globals (updates_in ps r (if b then us else []))) is) }

  -- and in one that isn't
  pub not_given : n ≤ slice_index from r → IsGivenEntry ps from n us r s s
  not_given past =
      let is : nat_lt (slice_index from r) n ≡ false = grind (arith, nat_tests, past) in
      record { changed = unchanged s; made = sym (ap (λ (b : Bool). fold apply s.globals (updates_in ps r (if b then us else []))) is) }

module _ (o : Option Files) (reigns : List Reign) (index : EntryIndex) (ps : List Pattern) (from : List ℕ) where
  -- up to a number behind which it's opened nothing was made
  pub given_begins : (t r : ℕ) (s : Standing) → t ≤ slice_index from r → IsGivenUpTo o reigns index ps from t r s s
  given_begins t r s low = record {
    changed = unchanged s;
    home = λ home. home;
    same = λ none. refl;
    made = all_told o (λ files. (seq : Sequence) → Indexes (InFiles files) reigns index seq → t ≤ length seq → s.globals ≡ fold apply s.globals (updates_in ps r (updates_of (drop (slice_index from r) (take t seq)))))
        (λ files seq indexed long.
        let few : length (take t seq) ≤ slice_index from r = let size : length (take t seq) ≡ t = length-take-le t seq long in omega (arith, size, low) in
        sym (ap (λ (es : Sequence). fold apply s.globals (updates_in ps r (updates_of es))) (drop_all (slice_index from r) (take t seq) few)));
  }

  -- one entry more
  pub given_more : (n r : ℕ) (s m w : Standing) (e : Entry) → IfSome o (λ files. (seq : Sequence) → Indexes (InFiles files) reigns index seq → slice_get seq n ≡ Some e)
      → IsGivenUpTo o reigns index ps from n r s m → IsGivenEntry ps from (n + 1) e.transaction.updates r m w → IsGivenUpTo o reigns index ps from (n + 1) r s w
  given_more n r s m w e read before given = record {
    changed = changed_then s m w before.changed given.changed;
    home = λ home. ap (are_home ps r) given.made ∙ stay_home ps r m.globals (updates_behind (slice_index from r) (n + 1) e.transaction.updates) (before.home home);
    same = λ none. absurd (omega (arith, none));
    made = both_weak o (λ files. (seq : Sequence) → Indexes (InFiles files) reigns index seq → slice_get seq n ≡ Some e)
        (λ files. (seq : Sequence) → Indexes (InFiles files) reigns index seq → n ≤ length seq → m.globals ≡ fold apply s.globals (updates_in ps r (updates_of (drop (slice_index from r) (take n seq)))))
        (λ files. (seq : Sequence) → Indexes (InFiles files) reigns index seq → n + 1 ≤ length seq → w.globals ≡ fold apply s.globals (updates_in ps r (updates_of (drop (slice_index from r) (take (n + 1) seq))))) read before.made
        (λ files at made seq indexed long.
        let f = slice_index from r in
        let us = updates_behind f (n + 1) e.transaction.updates in
        given.made
        ∙ ap (λ (g : Globals). fold apply g (updates_in ps r us)) (made seq indexed (omega (arith, long)))
        ∙ sym (ap (λ (vs : List Update). fold apply s.globals (updates_in ps r vs)) (updates_more f n seq e (at seq indexed))
        ∙ both_made ps r s.globals (updates_of (drop f (take n seq))) us));
  }

  -- up to the least of these numbers
  pub all_begin : (t : ℕ) (rs : List Standing) → length from ≡ length rs → ((r : ℕ) → r < length from → t ≤ slice_index from r) → AreBecome (IsGivenUpTo o reigns index ps from t) (length rs) rs rs
  all_begin t rs many low = record {
    count = refl;
    each = λ r s m within at now. subst (IsGivenUpTo o reigns index ps from t r s) (one_element s m (sym at ∙ now)) (given_begins t r s (low r (omega (arith, within, many))));
    rest = λ r past. refl;
  }

  -- in all regions those of one entry more
  pub all_more : (n : ℕ) (rs ms ws : List Standing) (e : Entry) (us : List Update) → us ≡ e.transaction.updates → IfSome o (λ files. (seq : Sequence) → Indexes (InFiles files) reigns index seq → slice_get seq n ≡ Some e)
      → AreBecome (IsGivenUpTo o reigns index ps from n) (length rs) rs ms → AreBecome (IsGivenEntry ps from (n + 1) us) (length ms) ms ws → AreBecome (IsGivenUpTo o reigns index ps from (n + 1)) (length rs) rs ws
  all_more n rs ms ws e us is read before given =
      become_then (IsGivenUpTo o reigns index ps from n) (IsGivenEntry ps from (n + 1) e.transaction.updates) (IsGivenUpTo o reigns index ps from (n + 1)) (length rs) (length ms) rs ms ws refl refl
      (λ r s m w first second. given_more n r s m w e read first second) before
      (subst (λ (xs : List Update). AreBecome (IsGivenEntry ps from (n + 1) xs) (length ms) ms ws) is given)

-- the same by values that equal these
pub become_as : (o v : Option Files) (h reigns : List Reign) (index : EntryIndex) (ps qs : List Pattern) (given from : List ℕ) (t n : ℕ) (rs ms : List Standing) → v ≡ o → h ≡ reigns → ps ≡ qs → given ≡ from
    → AreBecome (IsGivenUpTo v h index ps given t) n rs ms → AreBecome (IsGivenUpTo o reigns index qs from t) n rs ms
become_as o v h reigns index ps qs given from t n rs ms told history are is become =
    subst (λ (x : Option Files). AreBecome (IsGivenUpTo x reigns index qs from t) n rs ms) told
    (subst (λ (x : List Reign). AreBecome (IsGivenUpTo v x index qs from t) n rs ms) history
    (subst (λ (x : List Pattern). AreBecome (IsGivenUpTo v h index x from t) n rs ms) are
    (subst (λ (x : List ℕ). AreBecome (IsGivenUpTo v h index ps x t) n rs ms) is become)))
