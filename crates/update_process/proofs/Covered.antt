-- A site that takes its next entry has a reign for it.
use Rattle.std.proofs.Common.{◌≡◌, ◌⊎◌, inl, inr, ℕ, suc, ◌+◌, ◌-◌, ◌<◌, ◌≤◌, ◌==◌, nat_le, IsTrue, IfOk, Result, Ok, Err, get_or, ◌↔◌, Bool, true, List, [], ◌∷◌, ◌++◌, length, Option, Some, None, refl, sym, ap, subst, ◌∙◌, arith, if◌then◌else◌}
use Rattle.std.specs.Prelude.{option_to_list}
use Rattle.std.specs.List.{last_or}
use Rattle.std.proofs.lemmas.Bool.Decides.{nat_tests}
use Rattle.global_defs.specs.Entry.{Stamp, Reign}
use Rattle.global_defs.specs.Prefix.{IsPrefix, stamp_at}
use Rattle.std.specs.Option.{option_or}
use Rattle.ship_defs.specs.Arrivals.{Arrival, IsArrival}
use Rattle.update_process.specs.Copies.{Copy, next_of, adopted, told, reigns_next, Takes, hardened}
use Rattle.update_process.specs.Updates.{IsFirst, Did, After}
use Rattle.update_process.specs.declared.update.Applied.{Applied}
use Rattle.update_process.specs.declared.update.Applied.TheVariants.{One, Skipped, Nothing}

stamp-push : (n : ℕ) (rs : List Reign) (r : Reign) → r.start ≤ n → stamp_at n (rs ++ r ∷ []) ≡ Some r.stamp
stamp-push n [] r low = let is : nat_le r.start n ≡ true = grind (arith, nat_tests) in rw is refl
stamp-push n (q ∷ rs) r low = ap (λ (o : Option Stamp). option_or o (if nat_le q.start n then Some q.stamp else None)) (stamp-push n rs r low)

pub told_next : (c : Copy) (reign : Option Reign) → next_of (told c reign) ≡ next_of c
told_next c None = refl
told_next c (Some r) = refl

abbrev pub Covered : Copy → Type 0
Covered m = (stamp : Stamp) × (stamp_at (next_of m) (reigns_next m) ≡ Some stamp)

covered_first : (c : Copy) (r : Reign) → r.start ≡ next_of c → Covered (adopted c r)
covered_first c r at =
    let is : (r.start == next_of c) ≡ true = grind (arith, nat_tests) in
    (r.stamp, ap (λ (b : Bool). stamp_at (next_of c) (c.reigns ++ option_to_list (if b then Some r else None))) is ∙ stamp-push (next_of c) c.reigns r (omega (arith, at)))

some_or_none : (n : ℕ) → (n ≡ 0) ⊎ (1 ≤ n)
some_or_none n = grind arith

pub covered_now : (c m : Copy) (x : Arrival) → IsArrival x → x.number ≡ next_of c → m ≡ told c x.reign → (1 ≤ length m.sequence → Covered m) → Covered m
covered_now c m x form next is has = elim (some_or_none (length c.sequence)) [
  | inl none ↦ (
      let one : x.number ≡ 1 = omega (arith, next, none) in
      let first = form.first one in
      let r = first.0 in
      let now : m ≡ adopted c r = is ∙ ap (told c) first.1.0 in
      subst (λ (y : Copy). Covered y) (sym now) (covered_first c r (first.1.1 ∙ next)))
  | inr some ↦ has (
      let same : next_of m ≡ next_of c = ap next_of is ∙ told_next c x.reign in
      let more : length m.sequence + 1 ≡ length c.sequence + 1 = same in
      omega (arith, some, more))
]

pub told_globals : (c : Copy) (reign : Option Reign) → (told c reign).globals ≡ c.globals
told_globals c None = refl
told_globals c (Some r) = refl

-- the last of some reigns is the one at the last place
pub last_at : (xs : List Reign) (o : Option Reign) (d : Reign) → 0 < length xs → last_or o xs ≡ Some (get_or xs (length xs - 1) d)
last_at [] o d some = absurd (omega (arith, some))
last_at (x ∷ []) o d some = refl
last_at (x ∷ y ∷ xs) o d some =
    let next : length (x ∷ y ∷ xs) - 1 ≡ suc (length (y ∷ xs) - 1) = omega arith in
    last_at (y ∷ xs) (Some x) d (omega arith) ∙ ap (λ (n : ℕ). Some (get_or (x ∷ y ∷ xs) n d)) (sym next)

pub if_last : (b : Bool) (a r : Reign) (o : Option Reign) → o ≡ Some a → (IsTrue b ↔ (a ≡ r)) → (IsTrue b ↔ (o ≡ Some r))
if_last b a r o is same = (λ t. is ∙ ap (λ (x : Reign). Some x) (same.0 t), λ e. same.1 (let both : Some a ≡ Some r = sym is ∙ e in cc))

pub did_one : {E : Type 0} (result : Result Applied E) (x : Arrival) (c own now : Copy) → own ≡ told c x.reign → x.number ≡ next_of c
    → IfOk result (λ a. (a ≡ One x.number) × ((m : Copy) × Takes x.transaction own m × (now ≡ hardened m))) → IfOk result (λ a. Did a x c now)
did_one (Ok a) x c own now is next did =
    subst (λ (a : Applied). Did a x c now) (sym did.0) (refl, (next, (did.1.0, subst (λ (y : Copy). Takes x.transaction y did.1.0) is did.1.1, did.1.2)))
did_one (Err e) x c own now is next did = tt

first_of_known : (ahead later : List Arrival) (x : Arrival) → IsPrefix ahead (x ∷ later) → IsFirst ahead x
first_of_known [] later x p = tt
first_of_known (y ∷ ys) later x p = let is : x ∷ later ≡ y ∷ (ys ++ p.0) = p.1 in cc

pub after_of : (a : Applied) (x : Arrival) (ahead later before after : List Arrival) (c now : Copy) → after ≡ before ++ x ∷ [] → IsPrefix ahead (x ∷ later) → Did a x c now → After a ahead before after c now
after_of (One n) x ahead later before after c now is next did = (x, record { is = is; first = first_of_known ahead later x next }, did)
after_of Skipped x ahead later before after c now is next did = (x, record { is = is; first = first_of_known ahead later x next }, did)
after_of Nothing x ahead later before after c now is next did = absurd did
