-- The parts of a transaction, each by itself.
use Rattle.std.proofs.Common.{◌≡◌, inl, inr, ℕ, suc, ◌+◌, ◌≤◌, ◌<◌, ◌^◌, ◌==◌, Bool, List, [], ◌∷◌, length, filter, Some, subst, arith}
use Rattle.std.proofs.lemmas.Bool.{cases_Bool}
use Rattle.std.proofs.lemmas.Bool.Decides.{nat_tests}
use Rattle.std.specs.List.{AllByRecursion}
use Rattle.global_defs.specs.Entry.{Update, Transaction}
use Rattle.global_defs.specs.Fields.{IsUpdate, IsNumber, IsTransaction}
use Rattle.journal_defs.specs.Journal.{Item, Part, Rise, IsItem, IsPart}
use Rattle.journal_defs.specs.Split.{numbered, items_for, with_items, split}
use Rattle.journal_laws.proofs.Merging.{part_with}

these : (n mask : ℕ) (t : Transaction) (xs : List Item) (p : Part) → with_items n mask t xs ≡ Some p → part_with n mask t xs ≡ p
these n mask t [] p is = cc
these n mask t (x ∷ xs) p is = let same : Some (part_with n mask t (x ∷ xs)) ≡ Some p = is in cc

here : (region : Update → ℕ) (r : ℕ) (xs : List Item) → AllByRecursion (λ i. region i.update ≡ r) (filter (λ i. region i.update == r) xs)
here region r [] = tt
here region r (x ∷ xs) = elim (cases_Bool (region x.update == r)) [
  | inl h ↦ rw h (grind (arith, nat_tests, h), here region r xs)
  | inr h ↦ rw h (here region r xs)
]

pub at_home : (region : Update → ℕ) (n mask : ℕ) (t : Transaction) (r : ℕ) (p : Part) → split region n mask t r ≡ Some p → AllByRecursion (λ i. region i.update ≡ r) p.items
at_home region n mask t r p is =
    subst (λ (q : Part). AllByRecursion (λ i. region i.update ≡ r) q.items) (these n mask t (items_for region r t.updates) p is) (here region r (numbered 0 t.updates))

rise : (f : Item → Bool) (low i : ℕ) (us : List Update) → low ≤ i → Rise low (filter f (numbered i us))
rise f low i [] le = tt
rise f low i (u ∷ us) le = elim (cases_Bool (f (record { position = i; update = u }))) [
  | inl h ↦ rw h (le, rise f (i + 1) (suc i) us (omega arith))
  | inr h ↦ rw h (rise f low (suc i) us (omega arith))
]

each : (f : Item → Bool) (count i : ℕ) (us : List Update) → i + length us ≤ count → AllByRecursion IsUpdate us → AllByRecursion (IsItem count) (filter f (numbered i us))
each f count i [] fits all = tt
each f count i (u ∷ us) fits all = elim (cases_Bool (f (record { position = i; update = u }))) [
  | inl h ↦ rw h (record { position = omega arith; update = all.0 }, each f count (suc i) us (omega arith) all.1)
  | inr h ↦ rw h (each f count (suc i) us (omega arith) all.1)
]

pub in_form : (region : Update → ℕ) (n mask : ℕ) (t : Transaction) (r : ℕ) (p : Part) → IsNumber n → mask < 2 ^ 8 → IsTransaction t → split region n mask t r ≡ Some p → IsPart p
in_form region n mask t r p number low form is =
    subst IsPart (these n mask t (items_for region r t.updates) p is) (record {
      number = number;
      mask = low;
      origin = form.origin;
      count = (form.some, form.few);
      rise = rise (λ i. region i.update == r) 0 0 t.updates (omega arith);
      items = each (λ i. region i.update == r) (length t.updates) 0 t.updates (omega arith) form.each;
    })
