-- Instance files that gain a record: the site's name, the greatest cycle, and how many reigns there are.
use Rattle.std.proofs.Common.{◌≡◌, inl, inr, ℕ, ◌≤◌, ◌<◌, max, nat_le, Bool, List, [], ◌∷◌, ◌++◌, length, filter, refl, sym, ap, subst, arith, length-append}
use Rattle.std.proofs.lemmas.Bool.{cases_Bool, lt-leb}
use Rattle.std.proofs.lemmas.List.Elements.{filter-append}
use Rattle.global_defs.specs.declared.limits.TheConstants.{MOST_REIGNS}
use Rattle.global_defs.specs.Entry.{Reign}
use Rattle.journal_defs.specs.Instance.{InstanceRecord, Create, Reigned, Cut, Map, Mode, greatest_cycle, site_name}
use Rattle.journal_defs.specs.Surviving.{reigns}
use Rattle.journal_defs.specs.Fit.{HasFewReigns}
use Rattle.journal_laws.proofs.Runs.{reigns-cut, reigns-more}

pub name-more : (rs : List InstanceRecord) (x : InstanceRecord) → site_name (x ∷ []) ≡ [] → site_name (rs ++ x ∷ []) ≡ site_name rs
name-more [] x none = none
name-more (Create name regions ∷ rs) x none = refl
name-more (Reigned r ∷ rs) x none = refl
name-more (Cut n g ∷ rs) x none = refl
name-more (Map region star name ∷ rs) x none = refl
name-more (Mode region before ∷ rs) x none = refl

-- a record that is no REIGN leaves the greatest cycle
pub cycle-same : (rs : List InstanceRecord) (x : InstanceRecord) → greatest_cycle (x ∷ []) ≡ 0 → greatest_cycle (rs ++ x ∷ []) ≡ greatest_cycle rs
cycle-same [] x none = none
cycle-same (Reigned r ∷ rs) x none = ap (max r.stamp.cycle) (cycle-same rs x none)
cycle-same (Create name regions ∷ rs) x none = cycle-same rs x none
cycle-same (Cut n g ∷ rs) x none = cycle-same rs x none
cycle-same (Map region star name ∷ rs) x none = cycle-same rs x none
cycle-same (Mode region before ∷ rs) x none = cycle-same rs x none

pub cycle-reign : (rs : List InstanceRecord) (r : Reign) → greatest_cycle (rs ++ Reigned r ∷ []) ≡ max (greatest_cycle rs) r.stamp.cycle
cycle-reign [] r = omega arith
cycle-reign (Reigned q ∷ rs) r = let rest = cycle-reign rs r in omega arith
cycle-reign (Create name regions ∷ rs) r = cycle-reign rs r
cycle-reign (Cut m h ∷ rs) r = cycle-reign rs r
cycle-reign (Map region star name ∷ rs) r = cycle-reign rs r
cycle-reign (Mode region before ∷ rs) r = cycle-reign rs r

length-filter_le : {X : Type 0} (test : X → Bool) (xs : List X) → length (filter test xs) ≤ length xs
length-filter_le test [] = omega arith
length-filter_le test (x ∷ xs) = elim (cases_Bool (test x)) [
  | inl passes ↦ rw passes (let rest = length-filter_le test xs in omega arith)
  | inr fails ↦ rw fails (let rest = length-filter_le test xs in omega arith)
]

-- where few reigns are there at all, few have begun
pub few_at : (rs : List InstanceRecord) (n : ℕ) → length (reigns rs) ≤ MOST_REIGNS → HasFewReigns n rs
few_at rs n few = let less = length-filter_le (λ r. nat_le r.start n) (reigns rs) in omega arith

-- so many have begun where each reign is left
pub few-same : (rs : List InstanceRecord) (n : ℕ) (x : InstanceRecord) → reigns (rs ++ x ∷ []) ≡ reigns rs → HasFewReigns n rs → HasFewReigns n (rs ++ x ∷ [])
few-same rs n x same few = subst (λ (l : List Reign). length (filter (λ r. nat_le r.start n) l) ≤ MOST_REIGNS) (sym same) few

-- what a CUT leaves has begun by its length
pub room-cut : (rs : List InstanceRecord) (n g : ℕ) → HasFewReigns n rs → length (reigns (rs ++ Cut n g ∷ [])) ≤ MOST_REIGNS
room-cut rs n g few = subst (λ (l : List Reign). length l ≤ MOST_REIGNS) (sym (reigns-cut rs n g)) few

-- and less where fewer have
pub room-less : (rs : List InstanceRecord) (n g : ℕ) → length (filter (λ r. nat_le r.start n) (reigns rs)) < MOST_REIGNS → length (reigns (rs ++ Cut n g ∷ [])) < MOST_REIGNS
room-less rs n g less = subst (λ (l : List Reign). length l < MOST_REIGNS) (sym (reigns-cut rs n g)) less

-- a reign that begins later has not begun
pub few-later : (rs : List InstanceRecord) (n : ℕ) (r : Reign) → n < r.start → HasFewReigns n rs → HasFewReigns n (rs ++ Reigned r ∷ [])
few-later rs n r late few =
    subst (λ (l : List Reign). length (filter (λ r. nat_le r.start n) l) ≤ MOST_REIGNS) (sym (reigns-more rs r))
    (rw (filter-append (λ r. nat_le r.start n) (reigns rs) (r ∷ []), lt-leb r.start n late, length-append) (omega arith))

-- one reign more where fewer have begun
pub room-reign : (rs : List InstanceRecord) (r : Reign) → length (reigns rs) < MOST_REIGNS → length (reigns (rs ++ Reigned r ∷ [])) ≤ MOST_REIGNS
room-reign rs r less = subst (λ (l : List Reign). length l ≤ MOST_REIGNS) (sym (reigns-more rs r)) (rw length-append (omega arith))
