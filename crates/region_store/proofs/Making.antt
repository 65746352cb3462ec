-- One region changes, and the others stay.
use Rattle.std.proofs.Common.{◌≡◌, ◌≢◌, ⊎_elim, inl, inr, ℕ, ◌+◌, ◌<◌, ◌≤◌, ◌==◌, Bool, true, false, List, [], ◌∷◌, ◌++◌, length, fold, flat_map, slice_get, slice_set, Option, Some, refl, sym, ◌∙◌, ap, subst, arith}
use Rattle.std.specs.Prelude.{zero, suc, slice_index_or, unwrap_or, option_map, ◌⊎◌, Result, Ok, Err, OnOk, OnErr}
use Rattle.std.specs.List.{AllByRecursion}
use Rattle.std.specs.FinMap as globals
use Rattle.std.proofs.lemmas.Bool.{cases_eq}
use Rattle.std.proofs.lemmas.Bool.Decides.{nat_tests}
use Rattle.std.proofs.lemmas.Grind.{flat_map-append}
use Rattle.std.proofs.lemmas.List.{length-set}
use Rattle.std.proofs.lemmas.List.Sums.{fold-append}
use Rattle.std.proofs.lemmas.Option.{slice_get-map, slice_get_within, get_or_from_slice_get}
use Rattle.global_defs.specs.Entry.{Entry, Globals, Sequence, Update, apply, state}
use Rattle.journal_defs.specs.Directory.{Pattern}
use Rattle.journal_defs.specs.Fit.{region_of_update}
use Rattle.journal_defs.specs.Sound.{region_state}
use Rattle.block_laws.specs.Nodes.{updates_in, union}
use Rattle.block_laws.proofs.Parts as parts
use Rattle.gvt_leaf.specs.Stored.{HasRoom, sets_of, sets_in}
use Rattle.gvt_leaf.proofs.Made.{room_rest}
use Rattle.region_store.specs.Region.{Standing, IsSameRegion, IsChanged, stored_in, flushed}
use Rattle.region_store.specs.Joined.{Joined, AreJoined, HasRoomFor, IsSameJoined, IsSameElsewhere, AreChanged, joined, parts_in, region_at, no_region}
use Rattle.std.specs.Vec.{with_item}
use Rattle.region_store.specs.Inside.{regions_of, IsKept}
use Rattle.region_store.specs.declared.regions.Regions.TheInside.{Inside}
use Rattle.region_store.proofs.Lists.{get-set_same, get-set_other, map-set_alike, there}
use Rattle.region_store.proofs.Parts.{joined_is, part_at}
use Rattle.region_store.proofs.Counted.{here_first, elsewhere_first, len-apply}

-- the same regions with another one of this number
abbrev pub with_region : Joined → ℕ → Standing → Joined
with_region j r t = record { patterns = j.patterns; regions = slice_set j.regions r t }

some_is : {X : Type 0} (x y : X) → Some x ≡ Some y → x ≡ y
some_is {X} x y is = ap (λ (o : Option X). unwrap_or o x) is

pub unchanged : (s : Standing) → IsChanged s s
unchanged s = record { file = refl; imaged = refl; holds = λ e bytes h. h }

same_region : (s : Standing) → IsSameRegion s s
same_region s = record { file = refl; stored = record { globals = refl; leaves = refl; dirty = refl }; imaged = refl }

-- what holds of the one region and of each that stays holds of all
module _ (P : Standing → Standing → Type 0) (same : (s : Standing) → P s s) (regions : List Standing) (r : ℕ) (s t : Standing) (here : slice_get regions r ≡ Some s) (now : P s t) where
  each_by : (q : ℕ) (x y : Standing) → slice_get regions q ≡ Some x → slice_get (slice_set regions r t) q ≡ Some y → P x y
  each_by q x y was is = elim (cases_eq q r) [
    | inl e ↦
        let was_s : s ≡ x = some_is s x (sym here ∙ ap (slice_get regions) (sym e) ∙ was) in
        let is_t : t ≡ y = some_is t y (sym (get-set_same regions r t (slice_get_within regions r s here)) ∙ ap (slice_get (slice_set regions r t)) (sym e) ∙ is) in
        subst (λ (a : Standing). P a y) was_s (subst (P s) is_t now)
    | inr other ↦ let still : x ≡ y = some_is x y (sym was ∙ sym (get-set_other regions r q t other) ∙ is) in subst (P x) still (same x)
  ]

pub changed_at : (j : Joined) (r : ℕ) (s t : Standing) → slice_get j.regions r ≡ Some s → IsChanged s t → AreChanged j (with_region j r t)
changed_at j r s t here now = record { patterns = refl; count = length-set j.regions r t; each = each_by IsChanged unchanged j.regions r s t here now }

pub same_at : (j : Joined) (r : ℕ) (s t : Standing) → slice_get j.regions r ≡ Some s → IsSameRegion s t → IsSameJoined j (with_region j r t)
same_at j r s t here now = record {
  patterns = refl;
  parts = map-set_alike (λ (x : Standing). x.globals) j.regions r s t here now.stored.globals;
  count = length-set j.regions r t;
  each = each_by IsSameRegion same_region j.regions r s t here now;
}

-- another region with the same globals
pub elsewhere_at : (j : Joined) (r : ℕ) (s t : Standing) → slice_get j.regions r ≡ Some s → t.globals ≡ s.globals → IsSameElsewhere r j (with_region j r t)
elsewhere_at j r s t here same =
    let parts : parts_in (slice_set j.regions r t) ≡ parts_in j.regions = map-set_alike (λ (x : Standing). x.globals) j.regions r s t here same in
    record {
      nodes = ap (λ (gs : List Globals). union gs) parts;
      patterns = refl;
      parts = parts;
      count = length-set j.regions r t;
      others = λ q other. get-set_other j.regions r q t other;
    }

-- as many regions with the same parts are joined still
pub joined_still : (j k : Joined) → AreJoined j → k.patterns ≡ j.patterns → parts_in k.regions ≡ parts_in j.regions → length k.regions ≡ length j.regions → AreJoined k
joined_still j k h patterns same count = record {
  entries = h.entries;
  parts = λ r low. ap (λ (gs : List Globals). slice_get gs r) same ∙ h.parts r (omega (arith, low, count)) ∙ ap (λ (ps : List Pattern). Some (region_state ps r h.entries)) (sym patterns);
  some = let some = h.some in omega (arith, some, count);
  within = subst (λ (ps : List Pattern). AllByRecursion (λ (p : Pattern). p.region < length k.regions) ps) (sym patterns) (subst (λ (n : ℕ). AllByRecursion (λ (p : Pattern). p.region < n) j.patterns) (sym count) h.within);
  few = h.few;
}

-- ---- one after another

pub changed_none : (j : Joined) → AreChanged j j
changed_none j = record { patterns = refl; count = refl; each = λ r s t was is. subst (IsChanged s) (some_is s t (sym was ∙ is)) (unchanged s) }

pub same_none : (j : Joined) → IsSameJoined j j
same_none j = record { patterns = refl; parts = refl; count = refl; each = λ r s t was is. subst (IsSameRegion s) (some_is s t (sym was ∙ is)) (same_region s) }

pub changed_then : (i j k : Joined) → AreChanged i j → AreChanged j k → AreChanged i k
changed_then i j k first second = record {
  patterns = second.patterns ∙ first.patterns;
  count = second.count ∙ first.count;
  each = λ r s t was is.
      let m = there j.regions r (let low = slice_get_within i.regions r s was in let count = first.count in omega (arith, low, count)) in
      let a = first.each r s m.0 was m.1 in
      let b = second.each r m.0 t m.1 is in
      record { file = b.file ∙ a.file; imaged = b.imaged ∙ a.imaged; holds = λ e bytes h. b.holds e bytes (a.holds e bytes h) };
}

pub same_then : (i j k : Joined) → IsSameJoined i j → IsSameJoined j k → IsSameJoined i k
same_then i j k first second = record {
  patterns = second.patterns ∙ first.patterns;
  parts = second.parts ∙ first.parts;
  count = second.count ∙ first.count;
  each = λ r s t was is.
      let m = there j.regions r (let low = slice_get_within i.regions r s was in let count = first.count in omega (arith, low, count)) in
      let a = first.each r s m.0 was m.1 in
      let b = second.each r m.0 t m.1 is in
      record {
        file = b.file ∙ a.file;
        stored = record { globals = b.stored.globals ∙ a.stored.globals; leaves = b.stored.leaves ∙ a.stored.leaves; dirty = b.stored.dirty ∙ a.stored.dirty };
        imaged = b.imaged ∙ a.imaged;
      };
}

-- ---- an update is made in its region

-- an entry of one update
abbrev entry_of : Update → Entry
entry_of u = record { stamp = record { root = []; cycle = 0 }; transaction = record { origin = record { updater = 0; serial = 0 }; updates = u ∷ [] } }

state_one : (seq : Sequence) (u : Update) → state (seq ++ entry_of u ∷ []) ≡ apply (state seq) u
state_one seq u =
    ap (fold apply globals.empty) (flat_map-append (λ (x : Entry). x.transaction.updates) seq (entry_of u ∷ []))
    ∙ fold-append apply globals.empty (flat_map (λ (x : Entry). x.transaction.updates) seq) (u ∷ [])

module _ (j : Joined) (h : AreJoined j) (r : ℕ) (s t : Standing) (u : Update) (here : slice_get j.regions r ≡ Some s) (home : region_of_update j.patterns u ≡ r) (made : t.globals ≡ apply s.globals u)
    (room : HasRoomFor j (u ∷ [])) where
  abbrev pub new : Joined
  new = with_region j r t

  abbrev seq : Sequence
  seq = h.entries ++ entry_of u ∷ []

  at_home : (region_of_update j.patterns u == r) ≡ true
  at_home = grind (arith, nat_tests, home)

  not_there : (q : ℕ) → q ≢ r → (region_of_update j.patterns u == q) ≡ false
  not_there q other = grind (arith, nat_tests, home)

  part_now : (q : ℕ) → q < length j.regions → slice_get (parts_in (slice_set j.regions r t)) q ≡ Some (region_state j.patterns q seq)
  part_now q low = elim (cases_eq q r) [
    | inl e ↦
        slice_get-map (λ (x : Standing). x.globals) (slice_set j.regions r t) q
        ∙ ap (λ (n : ℕ). option_map (λ (x : Standing). x.globals) (slice_get (slice_set j.regions r t) n)) e
        ∙ ap (option_map (λ (x : Standing). x.globals)) (get-set_same j.regions r t (slice_get_within j.regions r s here))
        ∙ ap (λ (g : Globals). Some g)
        (made ∙ ap (λ (g : Globals). apply g u) (part_at j h r s here)
        ∙ ap (fold apply (region_state j.patterns r h.entries)) (sym (here_first j.patterns r u [] at_home))
        ∙ sym (parts.step j.patterns r h.entries (entry_of u)))
        ∙ ap (λ (n : ℕ). Some (region_state j.patterns n seq)) (sym e)
    | inr other ↦
        slice_get-map (λ (x : Standing). x.globals) (slice_set j.regions r t) q
        ∙ ap (option_map (λ (x : Standing). x.globals)) (get-set_other j.regions r q t other)
        ∙ sym (slice_get-map (λ (x : Standing). x.globals) j.regions q)
        ∙ h.parts q low
        ∙ ap (λ (g : Globals). Some g)
        (ap (fold apply (region_state j.patterns q h.entries)) (sym (elsewhere_first j.patterns q u [] (not_there q other)))
        ∙ sym (parts.step j.patterns q h.entries (entry_of u)))
  ]

  more_nodes : globals.len (state seq) ≤ globals.len (joined j) + sets_of u
  more_nodes =
      let is = ap globals.len (state_one h.entries u) in
      let less = len-apply (state h.entries) u in
      omega (arith, is, less, ap globals.len (joined_is j h))

  pub joined_now : AreJoined new
  joined_now = record {
    entries = seq;
    parts = λ q low. part_now q (omega (arith, low, length-set j.regions r t));
    some = let some = h.some in omega (arith, some, length-set j.regions r t);
    within = subst (λ (n : ℕ). AllByRecursion (λ (p : Pattern). p.region < n) j.patterns) (sym (length-set j.regions r t)) h.within;
    few = let numbers = room.numbers in omega (arith, numbers, more_nodes);
  }

  pub all_now : joined new ≡ apply (joined j) u
  unfolding joined_now
  all_now = joined_is new joined_now ∙ state_one h.entries u ∙ ap (λ (g : Globals). apply g u) (sym (joined_is j h))

  pub room_now : s.pool.room ≤ t.pool.room + sets_of u → globals.len t.globals ≤ globals.len s.globals + sets_of u → (more : List Update) → HasRoomFor j (u ∷ more) → HasRoomFor new more
  room_now left few more had = record {
    each = λ q x is. elim (cases_eq q r) [
      | inl e ↦
          let is_t : t ≡ x = some_is t x (sym (get-set_same j.regions r t (slice_get_within j.regions r s here)) ∙ ap (slice_get (slice_set j.regions r t)) (sym e) ∙ is) in
          subst (λ (n : ℕ). HasRoom (stored_in x) (sets_in (updates_in j.patterns n more))) (sym e)
          (subst (λ (y : Standing). HasRoom (stored_in y) (sets_in (updates_in j.patterns r more))) is_t
          (room_rest (stored_in s) (stored_in t) (sets_in (updates_in j.patterns r (u ∷ more))) (sets_of u) (sets_in (updates_in j.patterns r more)) (had.each r s here) (ap sets_in (here_first j.patterns r u more at_home)) left few))
      | inr other ↦
          subst (λ (us : List Update). HasRoom (stored_in x) (sets_in us)) (elsewhere_first j.patterns q u more (not_there q other))
          (had.each q x (sym (get-set_other j.regions r q t other) ∙ is))
    ];
    numbers =
        let numbers = had.numbers in
        let is = ap globals.len all_now in
        let less = len-apply (joined j) u in
        omega (arith, numbers, is, less);
  }

-- the room of the region that an update is made in
pub room_here : (j : Joined) (r : ℕ) (s : Standing) (u : Update) → region_of_update j.patterns u ≡ r → HasRoom (stored_in s) (sets_in (updates_in j.patterns r (u ∷ []))) → HasRoom (stored_in s) (sets_of u)
room_here j r s u home room =
    let here : (region_of_update j.patterns u == r) ≡ true = grind (arith, nat_tests, home) in
    let one = ap sets_in (here_first j.patterns r u [] here) in
    record { leaves = let leaves = room.leaves in omega (arith, leaves, one); numbers = let numbers = room.numbers in omega (arith, numbers, one) }

-- room for the first of some updates
pub room_one : (j : Joined) (u : Update) (more : List Update) → HasRoomFor j (u ∷ more) → HasRoomFor j (u ∷ [])
room_one j u more had = record {
  each = λ r s here. first_of r s (had.each r s here) (region_of_update j.patterns u == r) refl;
  numbers = let numbers = had.numbers in omega (arith, numbers);
}
  where
    first_of : (r : ℕ) (s : Standing) → HasRoom (stored_in s) (sets_in (updates_in j.patterns r (u ∷ more))) → (b : Bool) → (region_of_update j.patterns u == r) ≡ b → HasRoom (stored_in s) (sets_in (updates_in j.patterns r (u ∷ [])))
    first_of r s room true is =
        let one = ap sets_in (here_first j.patterns r u [] is) in
        let all = ap sets_in (here_first j.patterns r u more is) in
        record { leaves = let leaves = room.leaves in omega (arith, leaves, one, all); numbers = let numbers = room.numbers in omega (arith, numbers, one, all) }
    first_of r s room false is =
        let one = ap sets_in (elsewhere_first j.patterns r u [] is) in
        record { leaves = omega (arith, one); numbers = let numbers = room.numbers in omega (arith, numbers, one) }

-- ---- room in one region after another

pub room_more : (old j k : Joined) (n : ℕ) (us : List Update) → j.patterns ≡ old.patterns
    → ((r : ℕ) (s : Standing) → r < n → slice_get j.regions r ≡ Some s → HasRoom (stored_in s) (sets_in (updates_in old.patterns r us)))
    → ((r : ℕ) → r ≢ n → slice_get k.regions r ≡ slice_get j.regions r)
    → ((s : Standing) → slice_get k.regions n ≡ Some s → HasRoom (stored_in s) (sets_in (updates_in j.patterns n us)))
    → (r : ℕ) (s : Standing) → r < n + 1 → slice_get k.regions r ≡ Some s → HasRoom (stored_in s) (sets_in (updates_in old.patterns r us))
room_more old j k n us patterns below others here r s low is = elim (cases_eq r n) [
  | inl e ↦
      let now : slice_get k.regions n ≡ Some s = ap (slice_get k.regions) (sym e) ∙ is in
      subst (λ (q : ℕ). HasRoom (stored_in s) (sets_in (updates_in old.patterns q us))) (sym e) (subst (λ (ps : List Pattern). HasRoom (stored_in s) (sets_in (updates_in ps n us))) patterns (here s now))
  | inr other ↦ below r s (omega (arith, low, other)) (sym (others r other) ∙ is)
]

-- in all of them
pub room_all : (old j : Joined) (n : ℕ) (us : List Update) → length old.regions ≤ n → IsSameJoined old j
    → ((r : ℕ) (s : Standing) → r < n → slice_get j.regions r ≡ Some s → HasRoom (stored_in s) (sets_in (updates_in old.patterns r us)))
    → globals.len (joined old) + sets_in us < 4294967296 → HasRoomFor j us
room_all old j n us all same below fits = record {
  each = λ r s is.
      let low = slice_get_within j.regions r s is in
      let count = same.count in
      subst (λ (ps : List Pattern). HasRoom (stored_in s) (sets_in (updates_in ps r us))) (sym same.patterns) (below r s (omega (arith, low, count, all)) is);
  numbers = let parts = ap (λ (gs : List Globals). globals.len (union gs)) same.parts in omega (arith, fits, parts);
}

-- ---- on the fields

abbrev pub with_item_of : Inside → ℕ → Standing → Inside
with_item_of i n t = record { directory = i.directory; regions = with_item i.regions n t }

pub kept_nodes : (i : Inside) (n : ℕ) (s t : Standing) → slice_get i.regions.items n ≡ Some s → t.globals ≡ s.globals → IsKept i → IsKept (with_item_of i n t)
kept_nodes i n s t here same inv =
    let now = elsewhere_at (regions_of i) n s t here same in
    record {
      joined = joined_still (regions_of i) (regions_of (with_item_of i n t)) inv.joined refl now.parts now.count;
      count = now.count ∙ inv.count;
      few = let few = inv.few in let count = now.count in omega (arith, few, count);
    }

pub kept_same : (i : Inside) (n : ℕ) (s t : Standing) → slice_get i.regions.items n ≡ Some s → IsSameRegion s t → IsKept i → IsKept (with_item_of i n t)
kept_same i n s t here same inv = kept_nodes i n s t here same.stored.globals inv

pub kept_made : (i : Inside) (n : ℕ) (s t : Standing) (u : Update) → slice_get i.regions.items n ≡ Some s → region_of_update i.directory.patterns u ≡ n → t.globals ≡ apply s.globals u → HasRoomFor (regions_of i) (u ∷ [])
    → IsKept i → IsKept (with_item_of i n t)
kept_made i n s t u here home made room inv = record {
  joined = joined_now (regions_of i) inv.joined n s t u here home made room;
  count = length-set i.regions.items n t ∙ inv.count;
  few = let few = inv.few in omega (arith, few, length-set i.regions.items n t);
}

pub region_there : (j : Joined) (n : ℕ) (s : Standing) → slice_get j.regions n ≡ Some s → region_at j n ≡ s
region_there j n s here = get_or_from_slice_get j.regions n s no_region here

-- what changes leave of the region of a number
pub region_changed : (old new : Joined) → AreChanged old new → (n : ℕ) → n < length old.regions → IsChanged (region_at old n) (region_at new n)
region_changed old new changed n low =
    let count = changed.count in
    let s = there old.regions n low in
    let t = there new.regions n (omega (arith, low, count)) in
    subst (λ (x : Standing). IsChanged x (region_at new n)) (sym (region_there old n s.0 s.1)) (subst (IsChanged s.0) (sym (region_there new n t.0 t.1)) (changed.each n s.0 t.0 s.1 t.1))

read_or : (rs : List Standing) (n : ℕ) → slice_index_or rs n no_region ≡ unwrap_or (slice_get rs n) no_region
read_or [] n = refl
read_or (r ∷ rs) zero = refl
read_or (r ∷ rs) (suc n) = read_or rs n

pub region_elsewhere : (number : ℕ) (old new : Joined) → IsSameElsewhere number old new → (r : ℕ) → r ≢ number → region_at new r ≡ region_at old r
region_elsewhere number old new same r other = read_or new.regions r ∙ ap (λ (o : Option Standing). unwrap_or o no_region) (same.others r other) ∙ sym (read_or old.regions r)

-- one region becomes another with the same globals
module _ (i : Inside) (j : Joined) (is : regions_of i ≡ j) (n : ℕ) (s t : Standing) (here : slice_get i.regions.items n ≡ Some s) where
  pub at_old : region_at j n ≡ s
  at_old = subst (λ (x : Joined). region_at x n ≡ s) is (region_there (regions_of i) n s here)

  pub at_new : region_at (regions_of (with_item_of i n t)) n ≡ t
  at_new = region_there (regions_of (with_item_of i n t)) n t (get-set_same i.regions.items n t (slice_get_within i.regions.items n s here))

  -- what holds of the two, of the regions of that number
  pub lifted : (P : Standing → Standing → Type 0) → P s t → P (region_at j n) (region_at (regions_of (with_item_of i n t)) n)
  lifted P h = subst (λ (x : Standing). P x (region_at (regions_of (with_item_of i n t)) n)) (sym at_old) (subst (P s) (sym at_new) h)

  pub same_elsewhere : t.globals ≡ s.globals → IsSameElsewhere n j (regions_of (with_item_of i n t))
  same_elsewhere same = subst (λ (x : Joined). IsSameElsewhere n x (regions_of (with_item_of i n t))) is (elsewhere_at (regions_of i) n s t here same)

-- a flush keeps the globals, whether it succeeds or not
pub globals_still : {T E : Type 0} (r : Result T E) (s t : Standing) → OnOk r (t ≡ flushed s) → OnErr r ((t ≡ s) ⊎ (t ≡ flushed s)) → t.globals ≡ s.globals
globals_still (Ok x) s t ok err = ap (λ (y : Standing). y.globals) ok
globals_still (Err e) s t ok err = ⊎_elim (λ is. ap (λ (y : Standing). y.globals) is) (λ is. ap (λ (y : Standing). y.globals) is) err
