-- All that a fault in a pick may leave, as a list.
use Rattle.std.proofs.Common.{◌≡◌, ◌≤◌, ◌<◌, ◌+◌, ◌-◌, ℕ, zero, suc, Bool, true, false, List, [], ◌∷◌, ◌++◌, length, map, take, drop, filter, get_or, Some, None, refl, sym, ◌∙◌, ap, subst, arith, inl, inr}
use Rattle.std.specs.Prelude.{Option, ◌&&◌, ◌||◌, not, nat_le, nat_lt, min}
use Rattle.std.specs.List.{flat_map, enumerate_from, cons_option}
use Rattle.std.proofs.lemmas.Bool.{cases_lt, false≢true}
use Rattle.std.proofs.lemmas.Bool.Decides.{nat_tests}
use Rattle.std.proofs.lemmas.List.{take_all, length-take-le}
use Rattle.global_defs.specs.Entry.{Sequence}
use Rattle.global_defs.specs.Region.{Region}
use Rattle.journal_defs.specs.Journal.{Part}
use Rattle.journal_defs.specs.Instance.{regions, site_name}
use Rattle.journal_defs.specs.Directory.{Pattern, patterns}
use Rattle.journal_defs.specs.Broken.{BrokenPart, broken_text}
use Rattle.site_defs.specs.Lists.{Among}
use Rattle.site_defs.specs.Contents.{Contents, Standing, bare}
use Rattle.site_defs.specs.Fronts.{with_sequence}
use Rattle.site_defs.specs.Behind.{parts_of_each, parts_in, text_left, AreKept, IsFrontLeft, MayStand}
use Rattle.site_runner.proofs.Amongs.{among_first, among_second, among_either, among_map, among_flat, flat_among}
use Rattle.site_store.proofs.Parts.{named}
use Rattle.site_making.proofs.Mapped.{both_true as both}

-- all numbers up to one, and all lists of so many of them
abbrev up_to : ℕ → List ℕ
up_to zero = 0 ∷ []
up_to (suc m) = suc m ∷ up_to m

among_up_to : (m k : ℕ) → k ≤ m → Among (up_to m) k
among_up_to zero k le = inl (omega (arith, le))
among_up_to (suc m) k le = elim (cases_lt k (suc m)) [
  | inl less ↦ inr (among_up_to m k (omega (arith, less)))
  | inr same ↦ inl (omega (arith, le, same))
]

abbrev counts : (n m : ℕ) → List (List ℕ)
counts zero m = [] ∷ []
counts (suc n) m = flat_map (λ k. map (λ l. k ∷ l) (counts n m)) (up_to m)

abbrev firsts : (ℕ → ℕ) → (m n : ℕ) → List ℕ
firsts kept m zero = []
firsts kept m (suc n) = min (kept 0) m ∷ firsts (λ r. kept (suc r)) m n

at_most : (k m : ℕ) → min k m ≤ m
at_most k m = omega arith

among_counts : (kept : ℕ → ℕ) (m n : ℕ) → Among (counts n m) (firsts kept m n)
among_counts kept m zero = inl refl
among_counts kept m (suc n) =
    among_flat (λ k. map (λ l. k ∷ l) (counts n m)) (up_to m) (min (kept 0) m) (min (kept 0) m ∷ firsts (λ r. kept (suc r)) m n) (among_up_to m (min (kept 0) m) (at_most (kept 0) m))
    (among_map (λ (l : List ℕ). min (kept 0) m ∷ l) (counts n m) (firsts (λ r. kept (suc r)) m n) (among_counts (λ r. kept (suc r)) m n))

abbrev by_list : List ℕ → ℕ → ℕ
by_list l r = get_or l r 0

firsts_at : (kept : ℕ → ℕ) (m n r : ℕ) → r < n → by_list (firsts kept m n) r ≡ min (kept r) m
firsts_at kept m zero r low = absurd (omega (arith, low))
firsts_at kept m (suc n) zero low = refl
firsts_at kept m (suc n) (suc r) low = firsts_at (λ q. kept (suc q)) m n r (omega (arith, low))

-- a region has no more parts than there are entries
few_parts : (ps : List (ℕ → Option Part)) (r : ℕ) → length (parts_in ps r) ≤ length ps
few_parts [] r = omega arith
few_parts (p ∷ ps) r = by_part (p r) (few_parts ps r)
  where
    by_part : (o : Option Part) → length (parts_in ps r) ≤ length ps → length (cons_option o (parts_in ps r)) ≤ length (p ∷ ps)
    by_part None few = omega (arith, few)
    by_part (Some x) few = omega (arith, few)

each_entry : (pats : List Pattern) (n : ℕ) (es : Sequence) → length (parts_of_each pats n es) ≡ length es
each_entry pats n [] = refl
each_entry pats n (e ∷ es) = ap suc (each_entry pats (n + 1) es)

take_min : {X : Type 0} (k m : ℕ) (xs : List X) → length xs ≤ m → take (min k m) xs ≡ take k xs
take_min k m xs few = elim (cases_lt k m) [
  | inl less ↦ let same : min k m ≡ k = omega (arith, less) in ap (λ (n : ℕ). take n xs) same
  | inr more ↦
      let same : min k m ≡ m = omega (arith, more) in
      ap (λ (n : ℕ). take n xs) same ∙ take_all m xs few ∙ sym (take_all k xs (omega (arith, few, more)))
]

flat_same : (f g : ℕ → List Part) (i : ℕ) (rs : List Region) → ((r : ℕ) → r < i + length rs → f r ≡ g r) → flat_map (named f) (enumerate_from i rs) ≡ flat_map (named g) (enumerate_from i rs)
flat_same f g i [] same = refl
flat_same f g i (x ∷ rs) same =
    let here : named f (i, x) ≡ named g (i, x) = ap (λ (l : List Part). map (λ (p : Part). record { region = x.name; part = p }) l) (same i (omega arith)) in
    ap (λ (l : List BrokenPart). l ++ flat_map (named f) (enumerate_from (i + 1) rs)) here
    ∙ ap (λ (l : List BrokenPart). named g (i, x) ++ l) (flat_same f g (i + 1) rs (λ r low. same r (omega (arith, low))))

same_text : (c : Contents) (all : Sequence) (low : ℕ) (kept : ℕ → ℕ) (len : ℕ)
    → text_left c all low kept len ≡ text_left c all low (by_list (firsts kept (length (drop low all)) (length (regions c.instance)))) len
same_text c all low kept len = ap (broken_text (site_name c.instance) len) (flat_same (left kept) (left other) 0 (regions c.instance) each)
  where
    n : ℕ
    n = length (regions c.instance)

    m : ℕ
    m = length (drop low all)

    other : ℕ → ℕ
    other = by_list (firsts kept m n)

    ps : List (ℕ → Option Part)
    ps = parts_of_each (patterns c.instance) low (drop low all)

    left : (ℕ → ℕ) → ℕ → List Part
    left k r = filter (λ (p : Part). nat_lt len p.number) (take (k r) (parts_in ps r))

    each : (r : ℕ) → r < 0 + n → left kept r ≡ left other r
    each r less =
        let few = few_parts ps r in
        let many : length ps ≡ m = each_entry (patterns c.instance) low (drop low all) in
        ap (filter (λ (p : Part). nat_lt len p.number)) (sym (take_min (kept r) m (parts_in ps r) (omega (arith, few, many))) ∙ ap (λ (k : ℕ). take k (parts_in ps r)) (sym (firsts_at kept m n r (omega (arith, less)))))

-- whether each region has its parts
abbrev all_kept : ℕ → List (ℕ → Option Part) → (ℕ → ℕ) → Bool
all_kept zero parts kept = true
all_kept (suc n) parts kept = nat_le (length (parts_in parts n)) (kept n) && all_kept n parts kept

are_kept : (n : ℕ) (parts : List (ℕ → Option Part)) (kept : ℕ → ℕ) → all_kept n parts kept ≡ true → AreKept n parts kept
are_kept zero parts kept h r low = absurd (omega (arith, low))
are_kept (suc n) parts kept h r low =
    let k = both (nat_le (length (parts_in parts n)) (kept n)) (all_kept n parts kept) h in
    elim (cases_lt r n) [
      | inl less ↦ are_kept n parts kept k.1 r less
      | inr more ↦
          let same : n ≡ r = omega (arith, low, more) in
          let there : length (parts_in parts n) ≤ kept n = (let e = k.0 in grind (arith, nat_tests, e)) in
          subst (λ (q : ℕ). length (parts_in parts q) ≤ kept q) same there
    ]

kept_all : (n : ℕ) (parts : List (ℕ → Option Part)) (kept : ℕ → ℕ) → AreKept n parts kept → all_kept n parts kept ≡ true
kept_all zero parts kept h = refl
kept_all (suc n) parts kept h =
    let here : nat_le (length (parts_in parts n)) (kept n) ≡ true = (let e = h n (omega arith) in grind (arith, nat_tests, e)) in
    rw here (kept_all n parts kept (λ r low. h r (omega (arith, low))))

-- what is left of a front by these counts, where the entry behind it lacks a part
abbrev parts_next : Contents → Sequence → (low count : ℕ) → List (ℕ → Option Part)
parts_next c all low count = parts_of_each (patterns c.instance) low (take (count + 1 - low) (drop low all))

abbrev may_lack : Contents → Sequence → (low count : ℕ) → List ℕ → Bool
may_lack c all low count l = nat_le (length all) count || not (all_kept (length (regions c.instance)) (parts_next c all low count) (by_list l))

abbrev left_by : Contents → Sequence → (low count : ℕ) → List ℕ → Standing
left_by c all low count l = record { contents = with_sequence c (take count all); broken = text_left c all low (by_list l) (length (take count all)) }

abbrev if_so : Bool → Standing → List Standing
if_so true o = o ∷ []
if_so false o = []

abbrev of_front : Contents → Sequence → (low count : ℕ) → List Standing
of_front c all low count = flat_map (λ l. if_so (may_lack c all low count l) (left_by c all low count l)) (counts (length (regions c.instance)) (length (drop low all)))

-- all of them: fronts of so many entries and the d next ones
abbrev fronts_left : Contents → Sequence → (low d : ℕ) → List Standing
fronts_left c all low zero = of_front c all low low
fronts_left c all low (suc d) = of_front c all low (low + suc d) ++ fronts_left c all low d

among_fronts_left : (c : Contents) (all : Sequence) (low d count : ℕ) (o : Standing) → low ≤ count → count ≤ low + d → Among (of_front c all low count) o → Among (fronts_left c all low d) o
among_fronts_left c all low zero count o least most h = subst (λ (n : ℕ). Among (of_front c all low n) o) (omega (arith, least, most)) h
among_fronts_left c all low (suc d) count o least most h = elim (cases_lt count (low + suc d)) [
  | inl less ↦ among_second (of_front c all low (low + suc d)) (fronts_left c all low d) o (among_fronts_left c all low d count o least (omega (arith, less)) h)
  | inr more ↦ among_first (of_front c all low (low + suc d)) (fronts_left c all low d) o (subst (λ (n : ℕ). Among (of_front c all low n) o) (omega (arith, most, more)) h)
]

fronts_left_are : (c : Contents) (all : Sequence) (low d : ℕ) (o : Standing) → Among (fronts_left c all low d) o → (count : ℕ) × (low ≤ count) × (count ≤ low + d) × Among (of_front c all low count) o
fronts_left_are c all low zero o h = (low, omega arith, omega arith, h)
fronts_left_are c all low (suc d) o h = elim (among_either (of_front c all low (low + suc d)) (fronts_left c all low d) o h) [
  | inl here ↦ (low + suc d, omega arith, omega arith, here)
  | inr there ↦ let k = fronts_left_are c all low d o there in (k.0, k.1, (let most = k.2 in omega (arith, most)), k.3)
]

-- each that there may be is among them
lacks_so : (c : Contents) (all : Sequence) (low count : ℕ) (l : List ℕ) → (count < length all → AreKept (length (regions c.instance)) (parts_next c all low count) (by_list l) → ⊥) → may_lack c all low count l ≡ true
lacks_so c all low count l lacks = elim (cases_lt count (length all)) [
  | inl less ↦
      let test : nat_le (length all) count ≡ false = grind (arith, nat_tests, less) in
      rw test (none (all_kept (length (regions c.instance)) (parts_next c all low count) (by_list l)) (λ e. lacks less (are_kept (length (regions c.instance)) (parts_next c all low count) (by_list l) e)))
  | inr more ↦ let test : nat_le (length all) count ≡ true = grind (arith, nat_tests, more) in rw test refl
]
  where
    none : (b : Bool) → (b ≡ true → ⊥) → not b ≡ true
    none true f = absurd (f refl)
    none false f = refl

in_if : (b : Bool) (o : Standing) → b ≡ true → Among (if_so b o) o
in_if true o e = inl refl
in_if false o e = absurd (cc e)

if_is : (b : Bool) (x o : Standing) → Among (if_so b x) o → (b ≡ true) × (o ≡ x)
if_is true x o (inl e) = (refl, e)
if_is true x o (inr h) = absurd h
if_is false x o h = absurd h

front_left_among : (c : Contents) (all : Sequence) (low : ℕ) (o : Standing) → IsFrontLeft all low c o → Among (fronts_left c all low (length all - low)) o
front_left_among c all low o f =
    let front = f.front in
    let count : ℕ = front.count in
    let least = front.least in
    let most = front.most in
    let n : ℕ = length (regions c.instance) in
    let m : ℕ = length (drop low all) in
    let l : List ℕ = firsts f.kept m n in
    let seq : o.contents.sequence ≡ take count all = ap (λ (x : Contents). x.sequence) front.is in
    let long : length o.contents.sequence ≡ count = ap length seq ∙ length-take-le count all most in
    let is : o ≡ left_by c all low count l =
    ap (λ (x : Contents). record { contents = x; broken = o.broken }) front.is
    ∙ ap (λ (t : List ℕ). record { contents = with_sequence c (take count all); broken = t })
    (f.broken ∙ ap (λ (x : Sequence). text_left c all low f.kept (length x)) seq ∙ same_text c all low f.kept (length (take count all))) in
    let lacks : count < length all → AreKept n (parts_next c all low count) (by_list l) → ⊥ = λ less has.
    f.lacks (omega (arith, less, long)) (subst (λ (k : ℕ). AreKept n (parts_next c all low k) f.kept) (sym long)
    (λ r inside. let here = has r inside in let at = firsts_at f.kept m n r inside in omega (arith, here, at))) in
    among_fronts_left c all low (length all - low) count o least (omega (arith, least, most))
    (among_flat (λ k. if_so (may_lack c all low count k) (left_by c all low count k)) (counts n m) l o (among_counts f.kept m n)
    (subst (λ (x : Standing). Among (if_so (may_lack c all low count l) (left_by c all low count l)) x) (sym is) (in_if (may_lack c all low count l) (left_by c all low count l) (lacks_so c all low count l lacks))))

-- and each of them may be
front_left_is : (c : Contents) (all : Sequence) (low : ℕ) (o : Standing) → low ≤ length all → Among (fronts_left c all low (length all - low)) o → IsFrontLeft all low c o
front_left_is c all low o inside h =
    let k = fronts_left_are c all low (length all - low) o h in
    let count : ℕ = k.0 in
    let least = k.1 in
    let reach = k.2 in
    let most : count ≤ length all = omega (arith, reach, inside) in
    let n : ℕ = length (regions c.instance) in
    let at = flat_among (λ l. if_so (may_lack c all low count l) (left_by c all low count l)) (counts n (length (drop low all))) o k.3 in
    let l : List ℕ = at.0 in
    let so = if_is (may_lack c all low count l) (left_by c all low count l) o at.2 in
    let long : length (take count all) ≡ count = length-take-le count all most in
    subst (IsFrontLeft all low c) (sym so.1) (record {
      front = record { count = count; least = least; most = most; is = refl };
      kept = by_list l;
      broken = refl;
      lacks = λ less has. no_more (all_kept n (parts_next c all low count) (by_list l)) (omega (arith, less, long)) so.0
          (kept_all n (parts_next c all low count) (by_list l) (subst (λ (q : ℕ). AreKept n (parts_next c all low q) (by_list l)) long has));
    })
  where
    no_more : (b : Bool) {count : ℕ} → count < length all → nat_le (length all) count || not b ≡ true → b ≡ true → ⊥
    no_more b {count} less e is =
        let test : nat_le (length all) count ≡ false = grind (arith, nat_tests, less) in
        let stops : false ≡ true = sym (rw (test, is) refl) ∙ e in
        absurd (false≢true stops)

-- the list of what a fault in a pick may leave
abbrev pub stands_within : Contents → (before after : Sequence) → List Standing
stands_within c before after = bare (with_sequence c before) ∷ fronts_left c after (length before) (length after - length before)

pub may_stand_among : (c : Contents) (before after : Sequence) (o : Standing) → MayStand c before after o → Among (stands_within c before after) o
may_stand_among c before after o (inl e) = inl e
may_stand_among c before after o (inr f) = inr (front_left_among c after (length before) o f)

pub may_stand_is : (c : Contents) (before after : Sequence) (o : Standing) → length before ≤ length after → Among (stands_within c before after) o → MayStand c before after o
may_stand_is c before after o grown (inl e) = inl e
may_stand_is c before after o grown (inr h) = inr (front_left_is c after (length before) o grown h)
