-- What an update does to cells of which those before and behind a leaf are smaller and greater.
use Rattle.std.proofs.Common.{◌≡◌, inl, inr, ℕ, ◌+◌, ◌<◌, Bool, true, false, cond, List, [], ◌∷◌, ◌++◌, length, take, drop, filter, Option, Some, None, refl, sym, ap, subst, ◌∙◌, arith, nat_eq}
use Rattle.std.specs.Prelude.{not, ◌&&◌}
use Rattle.std.proofs.lemmas.Bool.{cases_Bool, and_parts, eqb-true}
use Rattle.std.proofs.lemmas.List.{take-append-drop, drop_more, take_at, drop_at, length-take-le, length-append}
use Rattle.std.specs.declared.cmp.Ordering.{Ordering}
use Rattle.std.specs.declared.cmp.Ordering.TheVariants.{Less, Equal, Greater}
use Rattle.std.specs.Ordering.{nat_cmp, is_lt, is_eq, eq_by_cmp, ordering_then}
use Rattle.std.specs.Cmp.Lexicographic.{nat_list_cmp_total}
use Rattle.std.specs.List.{AllByRecursion, find, starts_with}
use Rattle.std.specs.FinMap as globals
use Rattle.std.specs.FinMap.{nat_cmp-IsAntisymmetric}
use Rattle.std.specs.FinMap.Entries as lists
use Rattle.std.proofs.lemmas.Cmp.{tied_itself}
use Rattle.std.specs.Cmp.{nat_cmp_total}
use Rattle.std.proofs.lemmas.Bool.Decides.{nat_tests}
use Rattle.journal_defs.specs.Leaves.{Cell}
use Rattle.block_fmt.specs.Cells.{AreBelow, AreAbove, StandsIn, BelongsAt, cell_at, without_between}
use Rattle.block_fmt.proofs.Order as order
use Rattle.gvt_leaf.proofs.Bytes.{above_flips, below_flips}
use Rattle.journal_laws.proofs.ImageSteps.{all_both as all_joined}
use Rattle.global_defs.proofs.Basics.{bytes_cmp}

-- ---- looking up

pub find_behind : (key : List ℕ) (xs ys : List Cell) → AreAbove ys key → globals.find bytes_cmp key (xs ++ ys) ≡ globals.find bytes_cmp key xs
find_behind key [] ys h = order.find_above key ys h
find_behind key (x ∷ xs) ys h = ap (cond (eq_by_cmp bytes_cmp key x.0) (Some x.1)) (find_behind key xs ys h)

pub find_between : (key : List ℕ) (xs leaf ys : List Cell) → AreBelow xs key → AreAbove ys key → globals.find bytes_cmp key (xs ++ (leaf ++ ys)) ≡ globals.find bytes_cmp key leaf
find_between key xs leaf ys h k = order.find_behind key xs (leaf ++ ys) h ∙ find_behind key leaf ys k

-- ---- SET

appended : (o : Ordering) (a b c d : List Cell) → lists.by_order o a b c ++ d ≡ lists.by_order o (a ++ d) (b ++ d) (c ++ d)
appended Less a b c d = refl
appended Equal a b c d = refl
appended Greater a b c d = refl

pub put_behind : (key value : List ℕ) (xs ys : List Cell) → AreAbove ys key → globals.put bytes_cmp key value (xs ++ ys) ≡ globals.put bytes_cmp key value xs ++ ys
put_behind key value [] ys h = order.put_above key value ys h
put_behind key value (x ∷ xs) ys h =
    ap (λ (l : List Cell). lists.by_order (bytes_cmp key x.0) ((key, value) ∷ x ∷ xs ++ ys) ((x.0, value) ∷ xs ++ ys) (x ∷ l)) (put_behind key value xs ys h)
    ∙ sym (appended (bytes_cmp key x.0) ((key, value) ∷ x ∷ xs) ((x.0, value) ∷ xs) (x ∷ globals.put bytes_cmp key value xs) ys)

pub put_between : (key value : List ℕ) (xs leaf ys : List Cell) → AreBelow xs key → AreAbove ys key
    → globals.put bytes_cmp key value (xs ++ (leaf ++ ys)) ≡ xs ++ (globals.put bytes_cmp key value leaf ++ ys)
put_between key value xs leaf ys h k = order.put_behind key value xs (leaf ++ ys) h ∙ ap (λ (l : List Cell). xs ++ l) (put_behind key value leaf ys k)

pub cut_cell : (cells : List Cell) (at : ℕ) → at < length cells → cells ≡ take at cells ++ (cell_at cells at ∷ drop (at + 1) cells)
cut_cell cells at low = sym (take-append-drop at cells) ∙ ap (λ (l : List Cell). take at cells ++ l) (drop_more cells at ([], []) low)

pub tied : (key : List ℕ) → bytes_cmp key key ≡ Equal
tied key = tied_itself nat_list_cmp_total key

-- without its cell a key belongs where it stood
pub belongs_there : (key : List ℕ) (cells : List Cell) (at : ℕ) → StandsIn cells key at → BelongsAt (without_between cells at (at + 1)) key at
belongs_there key cells at s =
    let long : length (take at cells) ≡ at = length-take-le at cells (omega (arith, s.inside)) in
    record {
      inside = omega (arith, long, length-append (take at cells) (drop (at + 1) cells));
      before = subst (λ (l : List Cell). AreBelow l key) (sym (take_at (take at cells) (drop (at + 1) cells) at long)) s.before;
      after = subst (λ (l : List Cell). AreAbove l key) (sym (drop_at (take at cells) (drop (at + 1) cells) at long)) s.after;
    }

pub put_again : (key value : List ℕ) (cells : List Cell) (at : ℕ) → StandsIn cells key at
    → globals.put bytes_cmp key value (without_between cells at (at + 1)) ≡ globals.put bytes_cmp key value cells
put_again key value cells at s =
    let long : length (take at cells) ≡ at = length-take-le at cells (omega (arith, s.inside)) in
    order.put_belongs (without_between cells at (at + 1)) key value at (belongs_there key cells at s)
    ∙ (λ i. take_at (take at cells) (drop (at + 1) cells) at long i ++ ((key, value) ∷ drop_at (take at cells) (drop (at + 1) cells) at long i))
    ∙ sym (order.put_stands cells key value at s)

-- ---- ZKILL

abbrev pub is_other : List ℕ → Cell → Bool
is_other key c = not (eq_by_cmp bytes_cmp c.0 key)

pub filter-append : (p : Cell → Bool) (xs ys : List Cell) → filter p (xs ++ ys) ≡ filter p xs ++ filter p ys
filter-append p [] ys = refl
filter-append p (x ∷ xs) ys = elim (p x) as (λ b. cond b (x ∷ filter p (xs ++ ys)) (filter p (xs ++ ys)) ≡ cond b (x ∷ filter p xs) (filter p xs) ++ filter p ys) [
  | true ↦ ap (λ (l : List Cell). x ∷ l) (filter-append p xs ys)
  | false ↦ filter-append p xs ys
]

-- all pass
pub filter_all : (p : Cell → Bool) (xs : List Cell) → AllByRecursion (λ c. p c ≡ true) xs → filter p xs ≡ xs
filter_all p [] h = refl
filter_all p (x ∷ xs) h = ap (λ b. cond b (x ∷ filter p xs) (filter p xs)) h.0 ∙ ap (λ (l : List Cell). x ∷ l) (filter_all p xs h.1)

-- none passes
pub filter_none : (p : Cell → Bool) (xs : List Cell) → AllByRecursion (λ c. p c ≡ false) xs → filter p xs ≡ []
filter_none p [] h = refl
filter_none p (x ∷ xs) h = ap (λ b. cond b (x ∷ filter p xs) (filter p xs)) h.0 ∙ filter_none p xs h.1

pub below_other : (key : List ℕ) (xs : List Cell) → AreBelow xs key → AllByRecursion (λ c. is_other key c ≡ true) xs
below_other key [] h = tt
below_other key (x ∷ xs) h = (ap (λ (o : Ordering). not (is_eq o)) h.0, below_other key xs h.1)

pub above_other : (key : List ℕ) (xs : List Cell) → AreAbove xs key → AllByRecursion (λ c. is_other key c ≡ true) xs
above_other key [] h = tt
above_other key (x ∷ xs) h = (ap (λ (o : Ordering). not (is_eq o)) h.0, above_other key xs h.1)

pub removed_between : (key : List ℕ) (xs leaf ys : List Cell) → AreBelow xs key → AreAbove ys key → filter (is_other key) (xs ++ (leaf ++ ys)) ≡ xs ++ (filter (is_other key) leaf ++ ys)
removed_between key xs leaf ys h k =
    filter-append (is_other key) xs (leaf ++ ys)
    ∙ (λ i. filter_all (is_other key) xs (below_other key xs h) i ++ filter-append (is_other key) leaf ys i)
    ∙ ap (λ (l : List Cell). xs ++ (filter (is_other key) leaf ++ l)) (filter_all (is_other key) ys (above_other key ys k))

pub removed_here : (key : List ℕ) (cells : List Cell) (at : ℕ) → StandsIn cells key at → filter (is_other key) cells ≡ without_between cells at (at + 1)
removed_here key cells at s =
    let c : Cell = cell_at cells at in
    let rest : List Cell = drop (at + 1) cells in
    let gone : is_other key c ≡ false = ap (λ (k : List ℕ). not (is_eq (bytes_cmp k key))) s.here ∙ ap (λ (o : Ordering). not (is_eq o)) (tied key) in
    ap (filter (is_other key)) (cut_cell cells at s.inside)
    ∙ filter-append (is_other key) (take at cells) (c ∷ rest)
    ∙ (λ i. filter_all (is_other key) (take at cells) (below_other key (take at cells) s.before) i ++ ap (λ b. cond b (c ∷ filter (is_other key) rest) (filter (is_other key) rest)) gone i)
    ∙ ap (λ (l : List Cell). take at cells ++ l) (filter_all (is_other key) rest (above_other key rest s.after))

pub removed_nowhere : (key : List ℕ) (cells : List Cell) (at : ℕ) → BelongsAt cells key at → filter (is_other key) cells ≡ cells
removed_nowhere key cells at b =
    filter_all (is_other key) cells (subst (λ (l : List Cell). AllByRecursion (λ c. is_other key c ≡ true) l) (take-append-drop at cells)
    (all_joined (λ (c : Cell). is_other key c ≡ true) (take at cells) (drop at cells) (below_other key (take at cells) b.before) (above_other key (drop at cells) b.after)))

-- ---- KILL

abbrev pub is_outside : List ℕ → Cell → Bool
is_outside key c = not (starts_with nat_eq c.0 key)

-- what begins with a key isn't below it
pub below_begins : (a b : List ℕ) → bytes_cmp b a ≡ Less → starts_with nat_eq b a ≡ false
below_begins [] [] h = cc
below_begins [] (y ∷ b) h = cc
below_begins (x ∷ a) [] h = refl
below_begins (x ∷ a) (y ∷ b) h = elim (cases_Bool (nat_eq x y)) [
  | inl e ↦
      let same : x ≡ y = eqb-true x y e in
      let rest : bytes_cmp b a ≡ Less = sym (ap (λ (o : Ordering). ordering_then o (bytes_cmp b a)) (ap (λ n. nat_cmp y n) same ∙ tied_itself nat_cmp_total y)) ∙ h in
      ap (λ t. t && starts_with nat_eq b a) e ∙ below_begins a b rest
  | inr e ↦ ap (λ t. t && starts_with nat_eq b a) e
]

-- bytes between a key and bytes that begin with it begin with it too
between_begins : (a b c : List ℕ) → (bytes_cmp b a ≡ Less → ⊥) → bytes_cmp b c ≡ Less → starts_with nat_eq c a ≡ true → starts_with nat_eq b a ≡ true
between_begins [] b c h k s = refl
between_begins (x ∷ a) b [] h k s = cc
between_begins (x ∷ a) [] (z ∷ c) h k s = absurd (h refl)
between_begins (x ∷ a) (y ∷ b) (z ∷ c) h k s =
    let parts = and_parts (nat_eq x z) (starts_with nat_eq c a) s in
    by (nat_cmp y x) refl (eqb-true x z parts.0) (λ p q. between_begins a b c p q parts.1)
  where
    by : (o : Ordering) → nat_cmp y x ≡ o → x ≡ z → ((bytes_cmp b a ≡ Less → ⊥) → bytes_cmp b c ≡ Less → starts_with nat_eq b a ≡ true) → (nat_eq x y && starts_with nat_eq b a) ≡ true
    by Less e xz rest = absurd (h (ap (λ (o : Ordering). ordering_then o (bytes_cmp b a)) e))
    by Greater e xz rest =
        let no : Greater ≡ Less = sym (ap (λ (o : Ordering). ordering_then o (bytes_cmp b c)) (ap (nat_cmp y) (sym xz) ∙ e)) ∙ k in
        cc
    by Equal e xz rest =
        let xy : y ≡ x = nat_cmp-IsAntisymmetric y x e in
        let here : nat_eq x y ≡ true = grind (arith, nat_tests, xy) in
        let low : bytes_cmp b a ≡ Less → ⊥ = λ l. h (ap (λ (o : Ordering). ordering_then o (bytes_cmp b a)) e ∙ l) in
        let high : bytes_cmp b c ≡ Less = sym (ap (λ (o : Ordering). ordering_then o (bytes_cmp b c)) (ap (nat_cmp y) (sym xz) ∙ e)) ∙ k in
        ap (λ t. t && starts_with nat_eq b a) here ∙ rest low high

pub below_outside : (key : List ℕ) (xs : List Cell) → AreBelow xs key → AllByRecursion (λ c. is_outside key c ≡ true) xs
below_outside key [] h = tt
below_outside key (x ∷ xs) h = (ap not (below_begins key x.0 h.0), below_outside key xs h.1)

-- behind a cell that doesn't begin with a smaller key none does
pub outside_behind : (key : List ℕ) (d : Cell) (ys : List Cell) → (bytes_cmp d.0 key ≡ Less → ⊥) → is_outside key d ≡ true → AreAbove ys d.0 → AllByRecursion (λ c. is_outside key c ≡ true) ys
outside_behind key d [] h o a = tt
outside_behind key d (y ∷ ys) h o a = (
  elim (cases_Bool (starts_with nat_eq y.0 key)) [
    | inl begins ↦
        let no : starts_with nat_eq d.0 key ≡ true = between_begins key d.0 y.0 h (above_flips y.0 d.0 a.0) begins in
        let yes : starts_with nat_eq d.0 key ≡ false = not_true (starts_with nat_eq d.0 key) o in
        cc
    | inr ends ↦ ap not ends
  ],
  outside_behind key d ys h o a.1,
)
  where
    not_true : (b : Bool) → not b ≡ true → b ≡ false
    not_true true e = cc
    not_true false e = refl

-- some cells of a subtree go
pub killed_some : (key : List ℕ) (xs run ys : List Cell) → AllByRecursion (λ c. is_outside key c ≡ false) run → filter (is_outside key) (xs ++ (run ++ ys)) ≡ filter (is_outside key) (xs ++ ys)
killed_some key xs run ys h =
    filter-append (is_outside key) xs (run ++ ys)
    ∙ ap (λ (l : List Cell). filter (is_outside key) xs ++ l) (filter-append (is_outside key) run ys ∙ ap (λ (l : List Cell). l ++ filter (is_outside key) ys) (filter_none (is_outside key) run h))
    ∙ sym (filter-append (is_outside key) xs ys)

-- ---- the first cell past a key

abbrev pub is_past : List ℕ → Cell → Bool
is_past key c = is_lt (bytes_cmp key c.0)

abbrev pub first_of : List Cell → Option Cell
first_of [] = None
first_of (c ∷ cs) = Some c

pub past_none : (key : List ℕ) (xs ys : List Cell) → AllByRecursion (λ c. is_past key c ≡ false) xs → find (is_past key) (xs ++ ys) ≡ find (is_past key) ys
past_none key [] ys h = refl
past_none key (x ∷ xs) ys h = ap (λ b. cond b (Some x) (find (is_past key) (xs ++ ys))) h.0 ∙ past_none key xs ys h.1

pub past_above : (key : List ℕ) (ys : List Cell) → AreAbove ys key → find (is_past key) ys ≡ first_of ys
past_above key [] h = refl
past_above key (y ∷ ys) h = ap (λ (o : Ordering). cond (is_lt o) (Some y) (find (is_past key) ys)) (above_flips y.0 key h.0)

pub below_past : (key : List ℕ) (xs : List Cell) → AreBelow xs key → AllByRecursion (λ c. is_past key c ≡ false) xs
below_past key [] h = tt
below_past key (x ∷ xs) h = (ap is_lt (below_flips x.0 key h.0), below_past key xs h.1)
