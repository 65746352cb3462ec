-- Reigns in order, by how many of them have begun below a number.
use Rattle.std.proofs.Common.{◌≡◌, ◌≢◌, ◌⊎◌, inl, inr, ℕ, zero, suc, ◌+◌, ◌-◌, ◌<◌, ◌≤◌, ◌==◌, nat_le, Bool, true, false, List, [], ◌∷◌, ◌++◌, length, get_or, take, drop, Some, None, refl, sym, ap, subst, ◌∙◌, arith, append-nil, if◌then◌else◌}
use Rattle.std.specs.List.{AllByRecursion, last_or}
use Rattle.std.proofs.lemmas.Bool.Decides.{nat_tests}
use Rattle.std.proofs.lemmas.List.{take_more, take-append-drop, length-take-le}
use Rattle.std.proofs.lemmas.List.Elements.{filter-append}
use Rattle.std.proofs.Math.Seq.{drop-cons}
use Rattle.global_defs.specs.Entry.{Reign}
use Rattle.global_defs.specs.Rising.{StartsRise, begun_by}
use Rattle.wire_defs.specs.Frames.{History}
use Rattle.ship_defs.specs.Shipping.{reign_at, announced}
use Rattle.global_defs.proofs.Basics.{last_or_push}

-- starts rise past a number from the first reign that begins past it
pub rise_from : (low n i : ℕ) (rs : List Reign) (d : Reign) → StartsRise low rs → i < length rs → n < (get_or rs i d).start → StartsRise n (drop i rs)
rise_from low n zero [] d rise lt past = absurd (omega arith)
rise_from low n (suc i) [] d rise lt past = absurd (omega arith)
rise_from low n zero (r ∷ rs) d rise lt past = (past, rise.1)
rise_from low n (suc i) (r ∷ rs) d rise lt past = rise_from r.start n i rs d rise.1 (omega arith) past

module _ (P : Reign → Type 0) where
  pub all_push : (xs : List Reign) (y : Reign) → AllByRecursion P xs → P y → AllByRecursion P (xs ++ y ∷ [])
  all_push [] y h p = (p, tt)
  all_push (x ∷ xs) y h p = (h.0, all_push xs y h.1 p)

  pub all_take : (rs : List Reign) (i : ℕ) (d : Reign) → i < length rs → AllByRecursion P (take i rs) → P (get_or rs i d) → AllByRecursion P (take (i + 1) rs)
  all_take rs i d lt h p = subst (λ (l : List Reign). AllByRecursion P l) (sym (take_more rs i d lt)) (all_push (take i rs) (get_or rs i d) h p)

pub below_later : (n : ℕ) (xs : List Reign) → AllByRecursion (λ r. r.start < n) xs → AllByRecursion (λ r. r.start < n + 1) xs
below_later n [] h = tt
below_later n (x ∷ xs) h = (let a = h.0 in omega arith, below_later n xs h.1)

-- past the number, with the reign that begins there or without one
pub rise_behind : (n i : ℕ) (rs : List Reign) (d : Reign) → i < length rs → (get_or rs i d).start ≡ n → StartsRise (n - 1) (drop i rs) → StartsRise n (drop (i + 1) rs)
rise_behind n i rs d lt at rise =
    let split : StartsRise (n - 1) (get_or rs i d ∷ drop (suc i) rs) = subst (λ (l : List Reign). StartsRise (n - 1) l) (drop-cons rs i d lt) rise in
    let next : suc i ≡ i + 1 = omega arith in
    subst (λ (k : ℕ). StartsRise n (drop k rs)) next (subst (λ (k : ℕ). StartsRise k (drop (suc i) rs)) at split.1)

pub rise_not : (n i : ℕ) (rs : List Reign) (d : Reign) → i < length rs → (get_or rs i d).start ≢ n → 1 ≤ n → StartsRise (n - 1) (drop i rs) → StartsRise n (drop i rs)
rise_not n i rs d lt other least rise =
    let split : StartsRise (n - 1) (get_or rs i d ∷ drop (suc i) rs) = subst (λ (l : List Reign). StartsRise (n - 1) l) (drop-cons rs i d lt) rise in
    let past : n - 1 < (get_or rs i d).start = split.0 in
    let cases : ((get_or rs i d).start ≡ n) ⊎ (n < (get_or rs i d).start) = grind arith in
    let beyond : n < (get_or rs i d).start = elim cases [ inl is ↦ absurd (other is) | inr more ↦ more ] in
    subst (λ (l : List Reign). StartsRise n l) (sym (drop-cons rs i d lt)) (beyond, split.1)

keeps : (n : ℕ) (xs : List Reign) → AllByRecursion (λ r. r.start < n) xs → begun_by n xs ≡ xs
keeps n [] h = refl
keeps n (x ∷ xs) h =
    let low : x.start < n = h.0 in
    let is : nat_le x.start n ≡ true = grind (arith, nat_tests) in
    rw is (ap (λ (l : List Reign). x ∷ l) (keeps n xs h.1))

none_yet_from : (n low : ℕ) (xs : List Reign) → n ≤ low → StartsRise low xs → begun_by n xs ≡ []
none_yet_from n low [] le rise = refl
none_yet_from n low (x ∷ xs) le rise =
    let past : low < x.start = rise.0 in
    let is : nat_le x.start n ≡ false = grind (arith, nat_tests) in
    rw is (none_yet_from n x.start xs (omega arith) rise.1)

none_yet : (n : ℕ) (xs : List Reign) → StartsRise n xs → begun_by n xs ≡ []
none_yet n xs rise = none_yet_from n n xs (omega arith) rise

-- the reign of a number, by those that begin below it and the next one
pub at_next : (n i : ℕ) (rs : List Reign) (d : Reign) → i < length rs → (get_or rs i d).start ≡ n → AllByRecursion (λ r. r.start < n) (take i rs) → StartsRise n (drop (i + 1) rs) → reign_at n rs ≡ Some (get_or rs i d)
at_next n i rs d lt at earlier later =
    let y = get_or rs i d in
    let front : begun_by n (take (i + 1) rs) ≡ take i rs ++ y ∷ []
    = ap (begun_by n) (take_more rs i d lt) ∙ (filter-append (λ r. nat_le r.start n) (take i rs) (y ∷ [])
    ∙ (ap (λ (l : List Reign). l ++ begun_by n (y ∷ [])) (keeps n (take i rs) earlier) ∙ (let is : nat_le y.start n ≡ true = grind (arith, nat_tests) in rw is refl))) in
    let all : begun_by n rs ≡ take i rs ++ y ∷ []
    = ap (begun_by n) (sym (take-append-drop (i + 1) rs)) ∙ (filter-append (λ r. nat_le r.start n) (take (i + 1) rs) (drop (i + 1) rs)
    ∙ (ap (λ (l : List Reign). begun_by n (take (i + 1) rs) ++ l) (none_yet n (drop (i + 1) rs) later) ∙ (append-nil (begun_by n (take (i + 1) rs)) ∙ front))) in
    ap (last_or None) all ∙ last_or_push None (take i rs) y

pub at_earlier : (n i : ℕ) (rs : List Reign) → AllByRecursion (λ r. r.start < n) (take i rs) → StartsRise n (drop i rs) → reign_at n rs ≡ last_or None (take i rs)
at_earlier n i rs earlier later =
    ap (last_or None) (ap (begun_by n) (sym (take-append-drop i rs)) ∙ (filter-append (λ r. nat_le r.start n) (take i rs) (drop i rs)
    ∙ (ap (λ (l : List Reign). begun_by n (take i rs) ++ l) (none_yet n (drop i rs) later) ∙ (append-nil (begun_by n (take i rs)) ∙ keeps n (take i rs) earlier))))

pub last_take : (i : ℕ) (rs : List Reign) (d : Reign) → 0 < i → i ≤ length rs → last_or None (take i rs) ≡ Some (get_or rs (i - 1) d)
last_take i rs d some within =
    let is : i ≡ i - 1 + 1 = omega arith in
    let lt : i - 1 < length rs = omega arith in
    ap (λ (k : ℕ). last_or None (take k rs)) is ∙ (ap (last_or None) (take_more rs (i - 1) d lt) ∙ last_or_push None (take (i - 1) rs) (get_or rs (i - 1) d))

pub all_at : (P : Reign → Type 0) (rs : List Reign) (i : ℕ) (d : Reign) → AllByRecursion P rs → i < length rs → P (get_or rs i d)
all_at P [] i d h lt = absurd (omega arith)
all_at P (r ∷ rs) zero d h lt = h.0
all_at P (r ∷ rs) (suc i) d h lt = all_at P rs i d h.1 (omega arith)

get_take : (rs : List Reign) (i k : ℕ) (d : Reign) → i < k → get_or (take k rs) i d ≡ get_or rs i d
get_take [] i zero d lt = absurd (omega arith)
get_take [] i (suc k) d lt = refl
get_take (r ∷ rs) i zero d lt = absurd (omega arith)
get_take (r ∷ rs) zero (suc k) d lt = refl
get_take (r ∷ rs) (suc i) (suc k) d lt = get_take rs i k d (omega arith)

-- the HISTORY of a reign that begins with the number, and of one that began earlier
pub announced_next : (first : Bool) (n : ℕ) (r : Reign) → r.start ≡ n → announced first n (Some r) ≡ History r ∷ []
announced_next true n r at = refl
announced_next false n r at = let is : (r.start == n) ≡ true = grind (arith, nat_tests) in rw is refl

pub announced_earlier : (first : Bool) (n : ℕ) (r : Reign) → r.start < n → announced first n (Some r) ≡ (if first then History r ∷ [] else [])
announced_earlier true n r low = refl
announced_earlier false n r low = let is : (r.start == n) ≡ false = grind (arith, nat_tests) in rw is refl

-- no HISTORY stands before an entry of the same reign as the one before it, and one does before the connection's first
no_reign : Reign
no_reign = record { stamp = record { root = []; cycle = 0 }; start = 0 }

some_begun : (i : ℕ) → (i ≡ 0) ⊎ (0 < i)
some_begun i = grind arith

before_low : (n i : ℕ) (rs : List Reign) (d : Reign) → 0 < i → i ≤ length rs → AllByRecursion (λ r. r.start < n) (take i rs) → (get_or rs (i - 1) d).start < n
before_low n i rs d some within earlier =
    let lt : i - 1 < i = omega arith in
    let size : length (take i rs) ≡ i = length-take-le i rs within in
    let inside : i - 1 < length (take i rs) = omega (arith, size, some) in
    subst (λ (r : Reign). r.start < n) (get_take rs (i - 1) i d lt) (all_at (λ r. r.start < n) (take i rs) (i - 1) d earlier inside)

pub announced_same : (first : Bool) (n i : ℕ) (rs : List Reign) (d : Reign) → 0 < i → i ≤ length rs → AllByRecursion (λ r. r.start < n) (take i rs) → StartsRise n (drop i rs)
    → announced first n (reign_at n rs) ≡ (if first then History (get_or rs (i - 1) d) ∷ [] else [])
announced_same first n i rs d some within earlier later =
    ap (announced first n) (at_earlier n i rs earlier later ∙ last_take i rs d some within) ∙ announced_earlier first n (get_or rs (i - 1) d) (before_low n i rs d some within earlier)

pub announced_none : (first : Bool) (n i : ℕ) (rs : List Reign) → i ≤ length rs → AllByRecursion (λ r. r.start < n) (take i rs) → StartsRise n (drop i rs) → (first ≡ false) ⊎ (i ≡ 0) → announced first n (reign_at n rs) ≡ []
announced_none first n i rs within earlier later why = elim (some_begun i) [
  | inl none ↦ ap (announced first n) (at_earlier n i rs earlier later ∙ ap (λ (k : ℕ). last_or None (take k rs)) none)
  | inr some ↦ announced_same first n i rs no_reign some within earlier later ∙ elim why [
    | inl later_one ↦ ap (λ (b : Bool). if b then History (get_or rs (i - 1) no_reign) ∷ [] else []) later_one
    | inr none ↦ absurd (omega (arith, none, some))
  ]
]
