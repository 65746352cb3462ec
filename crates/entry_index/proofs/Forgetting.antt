-- Records that go where one of those behind them is a floor.
use Rattle.std.proofs.Common.{◌≡◌, inl, inr, ℕ, ◌≤◌, ◌<◌, nat_le, ◌&&◌, Bool, true, false, List, [], ◌∷◌, ◌++◌, Option, Some, None, refl, sym, ◌∙◌, ap, subst, arith}
use Rattle.std.proofs.lemmas.Bool.Decides.{nat_tests}
use Rattle.std.specs.Prelude.{◌==◌, if◌then◌else◌, filter, cond}
use Rattle.std.specs.Option.{option_or}
use Rattle.std.proofs.lemmas.Bool.{cases_lt}
use Rattle.std.specs.List.{AllZip, AllByRecursion}
use Rattle.disk_defs.specs.Disk.{Files}
use Rattle.journal_defs.specs.Instance.{InstanceRecord}
use Rattle.journal_defs.specs.Journal as journal
use Rattle.journal_defs.specs.Journal.{JournalRecord, Part}
use Rattle.journal_defs.specs.Sequence.{Placed, part_in, part_of}
use Rattle.journal_defs.specs.Surviving.{survives}
use Rattle.entry_index.specs.Cursors.{IsDrawn, Keeps, EndsWith, stays_by, epoch_said}
use Rattle.entry_index.specs.Places.{IsSignOf}
use Rattle.entry_index.specs.RecordSigns.{sign_of}
use Rattle.entry_index.specs.Thinned.{part_generation, MayGo, is_floor_in, has_floor, IsThinned}
use Rattle.entry_index.specs.declared.kept.Kept.{Kept}
use Rattle.entry_index.specs.declared.kept.EpochSign.{EpochSign}
use Rattle.entry_index.specs.declared.placed.PlacedSign.{PlacedSign}
use Rattle.jnl_file.proofs.Zips.{zip_append}
use Rattle.entry_index.proofs.Either.{or_left, or_right, first_none, second_none}
use Rattle.entry_index.proofs.Thinning.{all_more}

never_empty : (ks : List Placed) (e : Placed) → ks ++ e ∷ [] ≡ [] → ⊥
never_empty [] e none = cc none
never_empty (k ∷ ks) e none = cc none

head_same : (k p : Placed) (ks ps : List Placed) → k ∷ ks ≡ p ∷ ps → k ≡ p
head_same k p ks ps is = cc is

rest_same : (k p : Placed) (ks ps : List Placed) → k ∷ ks ≡ p ∷ ps → ks ≡ ps
rest_same k p ks ps is = cc is

-- no surviving part past the first n entries is among these records
abbrev pub NonePast : List InstanceRecord → ℕ → List Placed → Type 0
NonePast instance n js = (m : ℕ) → n < m → part_of instance m js ≡ None

none_past_behind : (instance : List InstanceRecord) (n : ℕ) (p : Placed) (js : List Placed) → NonePast instance n (p ∷ js) → NonePast instance n js
none_past_behind instance n p js none m later = first_none (part_of instance m js) (part_in instance m p.generation p.what) (none m later)

-- where none is the part of its own entry, it doesn't survive
lost_of : (same lives : Bool) (p : Part) → same ≡ true → (if same && lives then Some p else None) ≡ None → lives ≡ false
lost_of true false p is none = refl
lost_of true true p is none = absurd (cc none)
lost_of false lives p is none = absurd (cc is)

-- what doesn't stay may go
may_go : (instance : List InstanceRecord) (n g : ℕ) (r : JournalRecord) → ((m : ℕ) → n < m → part_in instance m g r ≡ None) → stays_by (sign_of r) ≡ false → MayGo instance n g r
may_go instance n g (journal.Tcom p) none goes = elim (cases_lt n p.number) [
  | inl later ↦ inr (lost_of (p.number == p.number) (survives instance g p.number) p (grind (arith, nat_tests)) (none p.number later))
  | inr within ↦ inl within
]
may_go instance n g (journal.Pini s) none goes = absurd (cc goes)
may_go instance n g (journal.Epoch m) none goes = tt
may_go instance n g (journal.Pblk b) none goes = tt

module _ (instance : List InstanceRecord) (lowest n : ℕ) (e : Placed) (floor : is_floor_in instance lowest n e.generation e.what ≡ true) where
  -- the last of the records that are kept is one of all
  floor_there : (b : Option ℕ) (js ks : List Placed) → IsThinned instance lowest n b js (ks ++ e ∷ []) → has_floor instance lowest n js ≡ true
  floor_there b [] ks none = absurd (never_empty ks e none)
  floor_there b (p ∷ js) [] (inl kept) =
      or_left (is_floor_in instance lowest n p.generation p.what) (has_floor instance lowest n js)
      (subst (λ (x : Placed). is_floor_in instance lowest n x.generation x.what ≡ true) (head_same e p [] kept.0 kept.1) floor)
  floor_there b (p ∷ js) (k ∷ ks) (inl kept) =
      or_right (is_floor_in instance lowest n p.generation p.what) (has_floor instance lowest n js)
      (floor_there (part_generation p.generation p.what) js ks (subst (IsThinned instance lowest n (part_generation p.generation p.what) js) (sym (rest_same k p (ks ++ e ∷ []) kept.0 kept.1)) kept.2))
  floor_there b (p ∷ js) ks (inr (inl dropped)) = or_right (is_floor_in instance lowest n p.generation p.what) (has_floor instance lowest n js) (floor_there b js ks dropped.2)
  floor_there b (p ∷ js) ks (inr (inr gone)) = or_right (is_floor_in instance lowest n p.generation p.what) (has_floor instance lowest n js) gone.0

  module _ (stays : Placed → Bool) (may : (p : Placed) → ((m : ℕ) → n < m → part_in instance m p.generation p.what ≡ None) → stays p ≡ false → MayGo instance n p.generation p.what) where
    forget_one : (b : Option ℕ) (p : Placed) (js ks : List Placed) → ((m : ℕ) → n < m → part_in instance m p.generation p.what ≡ None) → has_floor instance lowest n js ≡ true → IsThinned instance lowest n (part_generation p.generation p.what) js (filter stays ks ++ e ∷ [])
        → IsThinned instance lowest n b (p ∷ js) (filter stays (p ∷ ks) ++ e ∷ [])
    forget_one b p js ks none some later = by (stays p) refl
      where
        by : (t : Bool) → stays p ≡ t → IsThinned instance lowest n b (p ∷ js) (cond (stays p) (p ∷ filter stays ks) (filter stays ks) ++ e ∷ [])
        by true is = rw is (inl (filter stays ks ++ e ∷ [], refl, later))
        by false is = rw is (inr (inr (some, may p none is, later)))

    -- all but those that stay go
    pub forgets : (b : Option ℕ) (js ks : List Placed) → NonePast instance n js → IsThinned instance lowest n b js (ks ++ e ∷ []) → IsThinned instance lowest n b js (filter stays ks ++ e ∷ [])
    forgets b [] ks past none = absurd (never_empty ks e none)
    forgets b (p ∷ js) [] past (inl kept) = inl kept
    forgets b (p ∷ js) (k ∷ ks) past (inl kept) =
        let later : IsThinned instance lowest n (part_generation p.generation p.what) js (ks ++ e ∷ []) = subst (IsThinned instance lowest n (part_generation p.generation p.what) js) (sym (rest_same k p (ks ++ e ∷ []) kept.0 kept.1)) kept.2 in
        subst (λ (x : Placed). IsThinned instance lowest n b (p ∷ js) (filter stays (x ∷ ks) ++ e ∷ [])) (sym (head_same k p (ks ++ e ∷ []) kept.0 kept.1))
        (forget_one b p js ks (λ m more. second_none (part_of instance m js) (part_in instance m p.generation p.what) (past m more)) (floor_there (part_generation p.generation p.what) js ks later)
        (forgets (part_generation p.generation p.what) js ks (none_past_behind instance n p js past) later))
    forgets b (p ∷ js) ks past (inr (inl dropped)) = inr (inl (dropped.0, dropped.1, forgets b js ks (none_past_behind instance n p js past) dropped.2))
    forgets b (p ∷ js) ks past (inr (inr gone)) = inr (inr (gone.0, gone.1, forgets (part_generation p.generation p.what) js ks (none_past_behind instance n p js past) gone.2))

-- the last two of lists that go together
record Split {X Y : Type 0} (P : X → Y → Type 0) (xs : List X) (x : X) (ys : List Y) : Type 0 where
  before : List Y
  last : Y
  whole : ys ≡ before ++ last ∷ []
  all : AllZip P xs before
  here : P x last

zip_split : {X Y : Type 0} (P : X → Y → Type 0) (xs : List X) (x : X) (ys : List Y) → AllZip P (xs ++ x ∷ []) ys → Split P xs x ys
zip_split P [] x [] zip = absurd zip
zip_split P [] x (y ∷ []) zip = record { before = []; last = y; whole = refl; all = tt; here = zip.0 }
zip_split P [] x (y ∷ z ∷ ys) zip = absurd zip.1
zip_split P (w ∷ xs) x [] zip = absurd zip
zip_split {X} {Y} P (w ∷ xs) x (y ∷ ys) zip =
    let later = zip_split P xs x ys zip.1 in
    record { before = y ∷ later.before; last = later.last; whole = ap (λ (l : List Y). y ∷ l) later.whole; all = (zip.0, later.all); here = later.here }

zip_filter : {X Y : Type 0} (P : X → Y → Type 0) (f : X → Bool) (g : Y → Bool) → ((x : X) (y : Y) → P x y → f x ≡ g y) → (xs : List X) (ys : List Y) → AllZip P xs ys → AllZip P (filter f xs) (filter g ys)
zip_filter P f g same [] [] all = tt
zip_filter P f g same [] (y ∷ ys) all = absurd all
zip_filter P f g same (x ∷ xs) [] all = absurd all
zip_filter {X} {Y} P f g same (x ∷ xs) (y ∷ ys) all = by (g y) refl (zip_filter P f g same xs ys all.1)
  where
    by : (t : Bool) → g y ≡ t → AllZip P (filter f xs) (filter g ys) → AllZip P (cond (f x) (x ∷ filter f xs) (filter f xs)) (cond (g y) (y ∷ filter g ys) (filter g ys))
    by true is later = rw (same x y all.0 ∙ is, is) (all.0, later)
    by false is later = rw (same x y all.0 ∙ is, is) later

all_before : {X : Type 0} (P : X → Type 0) (xs : List X) (x : X) → AllByRecursion P (xs ++ x ∷ []) → AllByRecursion P xs × P x
all_before P [] x all = (tt, all.0)
all_before P (y ∷ xs) x all = let later = all_before P xs x all.1 in ((all.0, later.0), later.1)

all_filter : {X : Type 0} (P : X → Type 0) (f : X → Bool) (xs : List X) → AllByRecursion P xs → AllByRecursion P (filter f xs)
all_filter P f [] all = tt
all_filter {X} P f (x ∷ xs) all = by (f x) refl (all_filter P f xs all.1)
  where
    by : (t : Bool) → f x ≡ t → AllByRecursion P (filter f xs) → AllByRecursion P (cond (f x) (x ∷ filter f xs) (filter f xs))
    by true is later = rw is (all.0, later)
    by false is later = rw is later

all_three : (a b c : Bool) → a ≡ true → b ≡ true → c ≡ true → (a && b && c) ≡ true
all_three true true true x y z = refl
all_three true true false x y z = absurd (cc z)
all_three true false c x y z = absurd (cc y)
all_three false b c x y z = absurd (cc x)

-- the record whose sign is that of an epoch
floor_by_sign : (instance : List InstanceRecord) (lowest n g : ℕ) (r : JournalRecord) (e : EpochSign) → epoch_said g (sign_of r) ≡ Some e → survives instance e.generation e.number ≡ true → e.number ≤ lowest → e.number ≤ n → is_floor_in instance lowest n g r ≡ true
floor_by_sign instance lowest n g (journal.Epoch m) e is lives low least =
    let same : record { generation = g; number = m.number } ≡ e = cc is in
    let number : m.number ≡ e.number = ap (λ (x : EpochSign). x.number) same in
    let here : survives instance g m.number ≡ true = subst (λ (x : EpochSign). survives instance x.generation x.number ≡ true) (sym same) lives in
    all_three (survives instance g m.number) (nat_le m.number lowest) (nat_le m.number n) here (grind (arith, nat_tests, number, low)) (grind (arith, nat_tests, number, least))
floor_by_sign instance lowest n g (journal.Tcom p) e is lives low least = absurd (cc is)
floor_by_sign instance lowest n g (journal.Pini s) e is lives low least = absurd (cc is)
floor_by_sign instance lowest n g (journal.Pblk b) e is lives low least = absurd (cc is)

tail_same : (x y : PlacedSign) (xs ys : List PlacedSign) → x ∷ xs ≡ y ∷ ys → xs ≡ ys
tail_same x y xs ys is = cc is

last_same : (xs ys : List PlacedSign) (a b : PlacedSign) → xs ++ a ∷ [] ≡ ys ++ b ∷ [] → a ≡ b
last_same [] [] a b is = cc is
last_same [] (y ∷ []) a b is = absurd (cc is)
last_same [] (y ∷ z ∷ ys) a b is = absurd (cc is)
last_same (x ∷ []) [] a b is = absurd (cc is)
last_same (x ∷ w ∷ xs) [] a b is = absurd (cc is)
last_same (x ∷ xs) (y ∷ ys) a b is = last_same xs ys a b (tail_same x y (xs ++ a ∷ []) (ys ++ b ∷ []) is)

-- signs before the last one were dropped
pub keeps_forgotten : (files : Files) (instance : List InstanceRecord) (lowest region n : ℕ) (old new : Kept) (e : EpochSign) (ss : List PlacedSign) (s : PlacedSign) (before : List Placed) → EndsWith old.signs.items e → old.signs.items ≡ ss ++ s ∷ []
    → new.signs.items ≡ filter (λ q. stays_by q.sign) ss ++ s ∷ [] → new.behind ≡ old.behind → survives instance e.generation e.number ≡ true → e.number ≤ lowest → e.number ≤ n → NonePast instance n before
    → Keeps files instance lowest region n old before → Keeps files instance lowest region n new before
keeps_forgotten files instance lowest region n old new e ss s before ends was now behind lives low least past k =
    let stays : Placed → Bool = λ p. stays_by (sign_of p.what) in
    let parts = zip_split (IsSignOf files region) ss s k.kept (subst (λ (l : List PlacedSign). AllZip (IsSignOf files region) l k.kept) was k.are) in
    let x = parts.last in
    let last : ends.last ≡ s = last_same ends.before ss ends.last s (sym ends.whole ∙ was) in
    let said : epoch_said s.generation s.sign ≡ Some e = subst (λ (q : PlacedSign). epoch_said q.generation q.sign ≡ Some e) last ends.said in
    let there : epoch_said x.generation (sign_of x.what) ≡ Some e = ap (λ (g : ℕ). epoch_said g (sign_of x.what)) (sym parts.here.generation) ∙ ap (epoch_said s.generation) (sym parts.here.says) ∙ said in
    let floor = floor_by_sign instance lowest n x.generation x.what e there lives low least in
    let drawn = all_before IsDrawn parts.before x (subst (AllByRecursion IsDrawn) parts.whole k.drawn) in
    record {
      kept = filter stays parts.before ++ x ∷ [];
      are = subst (λ (l : List PlacedSign). AllZip (IsSignOf files region) l (filter stays parts.before ++ x ∷ [])) (sym now)
          (zip_append (IsSignOf files region) (filter (λ q. stays_by q.sign) ss) (s ∷ []) (filter stays parts.before) (x ∷ [])
          (zip_filter (IsSignOf files region) (λ q. stays_by q.sign) stays (λ q p is. ap stays_by is.says) ss parts.before parts.all) (parts.here, tt));
      drawn = all_more IsDrawn (filter stays parts.before) x (all_filter IsDrawn stays parts.before drawn.0) drawn.1;
      thinned = forgets instance lowest n x floor stays (λ p none goes. may_go instance n p.generation p.what none goes) None before parts.before past (subst (IsThinned instance lowest n None before) parts.whole k.thinned);
      behind = λ some. let same : new.behind ≡ old.behind = behind in k.behind (omega (arith, some, same)) ∙ ap Some (sym behind);
    }
