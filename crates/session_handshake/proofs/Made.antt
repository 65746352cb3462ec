-- Connections that were made and given back, one after another.
use Rattle.std.proofs.Common.{◌≡◌, ℕ, ◌+◌, ◌-◌, ◌≤◌, ◌==◌, nat_lt, Bool, true, false, IsTrue, List, [], ◌∷◌, ◌++◌, length, drop, refl, sym, ap, subst, ◌∙◌, arith, append_assoc, append-nil, length-append, if◌then◌else◌}
use Rattle.std.specs.Prelude.{fold, filter, count_by}
use Rattle.std.specs.List.{AllByRecursion}
use Rattle.std.proofs.Math.Seq.{drop-append_seam}
use Rattle.std.proofs.lemmas.List.{length-drop, drop-drop}
use Rattle.std.proofs.lemmas.List.Sums.{fold-append, sum_by-append, sum_by-cons}
use Rattle.std.proofs.lemmas.Bool.Decides.{nat_tests}
use Rattle.wire_defs.specs.Links.{Linking, Past, ConnectionMade, CutsAdded, counted, was_cut, past_since, later_orders, cut_at_once}
use Rattle.session_handshake.specs.Connections.{WereMade}

abbrev cuts_after : ℕ → List Past → ℕ
cuts_after n over = fold (λ n p. counted n p.cuts) n over

-- how many connections were cut

abbrev one_if : Past → ℕ
one_if p = if was_cut p then 1 else 0

pub count_append : (xs ys : List Past) → count_by was_cut (xs ++ ys) ≡ count_by was_cut xs + count_by was_cut ys
count_append xs ys = sum_by-append one_if xs ys

one_most : (b : Bool) → (if b then 1 else 0) ≤ 1
one_most true = omega arith
one_most false = omega arith

pub made_none : (a : Linking) (s : ℕ) → WereMade a a s []
made_none a s = record {
  told = refl;
  shown = refl;
  simulated = refl;
  past = sym (append-nil a.past);
  own = tt;
  once = tt;
  cuts = refl;
  other_cuts = λ t _. refl;
  other_orders = λ t _. refl;
  orders = (0, omega arith, λ _. refl, refl);
  ordered = λ _. omega arith;
}

-- orders that are used up by some connections and then by others

abbrev pub Used : (told : Bool) → (before after : List ℕ) → List Past → Type 0
Used told before after over = (used : ℕ) × (used ≤ length over) × (IsTrue told → used ≡ length over) × (after ≡ drop used before)

pub used_on : (told told_now : Bool) (before between after : List ℕ) (xs ys : List Past) → told_now ≡ told → Used told before between xs → Used told_now between after ys → Used told before after (xs ++ ys)
used_on told told_now before between after xs ys same x y =
    let size = length-append xs ys in (
      x.0 + y.0,
      (let a = x.1 in let b = y.1 in omega (arith, size, a, b)),
      λ t. (let a = x.2 t in let b = y.2 (same ∙ t) in omega (arith, size, a, b)),
      y.3 ∙ (ap (λ (l : List ℕ). drop y.0 l) x.3 ∙ drop-drop y.0 x.0 before),
    )

-- of so many orders
few_on : (a b c d m n : ℕ) → b ≤ d → m ≡ a - d → b ≤ a → c ≤ m → n ≡ b + c → n ≤ a
few_on a b c d m n most left own more sum = omega (arith, most, left, own, more, sum)

pub count_most : (xs : List Past) → count_by was_cut xs ≤ length xs
count_most [] = omega arith
count_most (p ∷ xs) = let is = sum_by-cons one_if p xs in let here = one_most (was_cut p) in let later = count_most xs in omega (arith, is, here, later)

pub ordered_on : (told told_now : Bool) (before between : List ℕ) (xs ys : List Past) → told_now ≡ told → (used : ℕ) → (IsTrue told → used ≡ length xs) → between ≡ drop used before
    → (IsTrue told → count_by was_cut xs ≤ length before) → (IsTrue told_now → count_by was_cut ys ≤ length between) → IsTrue told → count_by was_cut (xs ++ ys) ≤ length before
ordered_on told told_now before between xs ys same used all left x y = λ t.
    let place = all t in
    let size : length between ≡ length before - used = ap (λ (l : List ℕ). length l) left ∙ length-drop used before in
    let own = x t in
    let more = y (same ∙ t) in
    let most = count_most xs in
    let sum = count_append xs ys in
    few_on (length before) (count_by was_cut xs) (count_by was_cut ys) (length xs) (length between) (count_by was_cut (xs ++ ys)) most (size ∙ ap (λ (n : ℕ). length before - n) place) own more sum

pub all_append : (P : Past → Type 0) (xs ys : List Past) → AllByRecursion P xs → AllByRecursion P ys → AllByRecursion P (xs ++ ys)
all_append P [] ys a b = b
all_append P (x ∷ xs) ys a b = (a.0, all_append P xs ys a.1 b)

pub made_on : (a b c : Linking) (s : ℕ) (xs ys : List Past) → WereMade a b s xs → WereMade b c s ys → WereMade a c s (xs ++ ys)
made_on a b c s xs ys x y = record {
  told = y.told ∙ x.told;
  shown = y.shown ∙ x.shown;
  simulated = y.simulated ∙ x.simulated;
  past = y.past ∙ (ap (λ (l : List Past). l ++ ys) x.past ∙ append_assoc a.past xs ys);
  own = all_append (λ p. p.session ≡ s) xs ys x.own y.own;
  once = all_append (λ p. p.cuts ≤ 1) xs ys x.once y.once;
  cuts = y.cuts ∙ (ap (λ (n : ℕ). cuts_after n ys) x.cuts ∙ sym (fold-append (λ n p. counted n p.cuts) (a.cuts s) xs ys));
  other_cuts = λ t ne. y.other_cuts t ne ∙ x.other_cuts t ne;
  other_orders = λ t ne. y.other_orders t ne ∙ x.other_orders t ne;
  orders = used_on a.told b.told (a.orders s) (b.orders s) (c.orders s) xs ys x.told x.orders y.orders;
  ordered = ordered_on a.told b.told (a.orders s) (b.orders s) xs ys x.told x.orders.0 x.orders.2 x.orders.3 x.ordered y.ordered;
}

pub later_is : (orders : List ℕ) → later_orders orders ≡ drop 1 orders
later_is [] = refl
later_is (order ∷ orders) = refl

-- one connection was cut by an order
pub one_ordered : (p : Past) (orders : List ℕ) → (orders ≡ [] → p.cuts ≡ 0) → count_by was_cut (p ∷ []) ≤ length orders
one_ordered p [] none =
    let zero : was_cut p ≡ false = ap (λ (n : ℕ). nat_lt 0 n) (none refl) in
    let here : one_if p ≡ 0 = rw zero in
    let is = sum_by-cons one_if p [] in
    omega (arith, is, here)
one_ordered p (order ∷ orders) none = let most = count_most (p ∷ []) in omega (arith, most)

pub made_settled : (a b c : Linking) (s : ℕ) (p : Past) → ConnectionMade a b s → CutsAdded b c s p.cuts → c.past ≡ b.past ++ p ∷ [] → p.session ≡ s → p.cuts ≤ 1
    → (IsTrue a.told → a.orders s ≡ [] → p.cuts ≡ 0) → WereMade a c s (p ∷ [])
made_settled a b c s p x y past own once ordered = record {
  told = y.told ∙ x.told;
  shown = y.shown ∙ x.shown;
  simulated = y.simulated ∙ x.simulated;
  past = past ∙ ap (λ (l : List Past). l ++ p ∷ []) x.past;
  own = (own, tt);
  once = (once, tt);
  cuts = y.added ∙ ap (λ (n : ℕ). counted n p.cuts) (x.cuts s);
  other_cuts = λ t ne. y.others t ne ∙ x.cuts t;
  other_orders = λ t ne. y.orders t ∙ x.others t ne;
  orders = (1, omega arith, λ _. refl, y.orders s ∙ (x.used ∙ later_is (a.orders s)));
  ordered = λ t. one_ordered p (a.orders s) (ordered t);
}

-- a connection that was cut as it was made, where links don't tell their bytes
pub made_at_once : (a b : Linking) (s : ℕ) → a.told ≡ false → CutsAdded a b s 1 → b.past ≡ a.past ++ cut_at_once s ∷ [] → WereMade a b s (cut_at_once s ∷ [])
made_at_once a b s untold y past = record {
  told = y.told;
  shown = y.shown;
  simulated = y.simulated;
  past = past;
  own = (refl, tt);
  once = (omega arith, tt);
  cuts = y.added;
  other_cuts = y.others;
  other_orders = λ t ne. y.orders t;
  orders = (0, omega arith, λ t. (let two : true ≡ false = sym t ∙ untold in cc), y.orders s);
  ordered = λ t. (let two : true ≡ false = sym t ∙ untold in absurd (cc two));
}

pub own_all : (s : ℕ) (over : List Past) → AllByRecursion (λ p. p.session ≡ s) over → filter (λ p. p.session == s) over ≡ over
own_all s [] own = refl
own_all s (p ∷ over) own = let is : (p.session == s) ≡ true = grind (arith, nat_tests, own.0) in rw is (ap (λ (l : List Past). p ∷ l) (own_all s over own.1))

-- these are the session's connections that came to be over meanwhile
pub since_is : (a b : Linking) (s : ℕ) (over : List Past) → WereMade a b s over → past_since a b s ≡ over
since_is a b s over x =
    ap (λ (l : List Past). filter (λ p. p.session == s) (drop (length a.past) l)) x.past
    ∙ (ap (λ (l : List Past). filter (λ p. p.session == s) l) (drop-append_seam a.past over) ∙ own_all s over x.own)

-- how many of them were cut

pub count_none : (over : List Past) → AllByRecursion (λ p. was_cut p ≡ false) over → count_by was_cut over ≡ 0
count_none [] none = refl
count_none (p ∷ over) none = let here : one_if p ≡ 0 = rw none.0 in let later = count_none over none.1 in sum_by-cons one_if p over ∙ omega (arith, here, later)

pub count_one : (p : Past) → IsTrue (was_cut p) → count_by was_cut (p ∷ []) ≡ 1
count_one p cut = let here : one_if p ≡ 1 = rw cut in sum_by-cons one_if p [] ∙ omega (arith, here)

-- where four are reached

pub count_push : (xs : List Past) (p : Past) (n : ℕ) → count_by was_cut xs ≡ n → IsTrue (was_cut p) → count_by was_cut (xs ++ p ∷ []) ≡ n + 1
count_push xs p n e cut = let more = count_append xs (p ∷ []) in let one = count_one p cut in omega (arith, e, more, one)

pub count_still : (xs ys : List Past) (n : ℕ) → count_by was_cut xs ≡ n → AllByRecursion (λ p. was_cut p ≡ false) ys → count_by was_cut (xs ++ ys) ≡ n
count_still xs ys n e none = let more = count_append xs ys in let zero = count_none ys none in omega (arith, e, more, zero)

pub length_push : (over : List Past) (p : Past) (k : ℕ) → length over ≡ k → length (over ++ p ∷ []) ≡ k + 1
length_push over p k size = length-append over (p ∷ []) ∙ ap (λ (n : ℕ). n + 1) size
