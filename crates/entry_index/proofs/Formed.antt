-- What is read of parts in their form is a transaction of its form.
use Rattle.std.proofs.Common.{◌≡◌, ℕ, zero, suc, ◌==◌, ◌&&◌, ◌||◌, Bool, true, false, cond, List, [], ◌∷◌, length, map, flat_map, find, get_or, Option, Some, None, IfSome, refl, sym, ap, subst, arith, option_map, if◌then◌else◌}
use Rattle.std.specs.Prelude.{not}
use Rattle.std.specs.List.{AllByRecursion, list_all}
use Rattle.std.specs.Option.{option_or, option_and_then}
use Rattle.global_defs.specs.Entry.{Update, Stamp, Entry}
use Rattle.global_defs.specs.Fields.{IsUpdate, IsTransaction}
use Rattle.global_defs.specs.Serial.{entry_of}
use Rattle.gvn_model.specs.declared.entry.Transaction.{Transaction}
use Rattle.gvn_model.specs.Entries.{transaction_value}
use Rattle.journal_defs.specs.Journal.{Part, Item, IsPart, IsItem}
use Rattle.journal_defs.specs.Sequence.{REGIONS, in_mask, is_like, items_of, items_in, update_at, updates_from, updates_of, updates_by, entry_by, entry_among}
use Rattle.journal_laws.proofs.ImageSteps.{all_both}
use Rattle.mupip_recover.specs.Entries.{stamped}
use Rattle.mupip_recover.specs.Table.{part_in_column, part_at}
use Rattle.mupip_recover.specs.declared.table.Table.{Table}
use Rattle.entry_index.specs.Parts.{read_value, IsReadPart}
use Rattle.entry_index.specs.declared.reading.ReadPart.{ReadPart}

either : {X : Type 0} (P : X → Type 0) (o p : Option X) → IfSome o P → IfSome p P → IfSome (option_or o p) P
either P None p h k = k
either P (Some x) p h k = h

if_there : {X : Type 0} (P : X → Type 0) (b : Bool) (o : Option X) → IfSome o P → IfSome (if b then o else None) P
if_there P true o h = h
if_there P false o h = tt

-- items
abbrev IsGood : Item → Type 0
IsGood i = IsUpdate i.update

good_items : (count : ℕ) (is : List Item) → AllByRecursion (IsItem count) is → AllByRecursion IsGood is
good_items count [] all = tt
good_items count (i ∷ is) all = (all.0.update, good_items count is all.1)

good_part : (o : Option Part) → IfSome o IsPart → AllByRecursion IsGood (items_of o)
good_part None h = tt
good_part (Some p) h = good_items p.count p.items h.items

good_in : (mask : ℕ) (part : ℕ → Option Part) (rs : List ℕ) → ((r : ℕ) → IfSome (part r) IsPart) → AllByRecursion IsGood (flat_map (λ r. if in_mask mask r then items_of (part r) else []) rs)
good_in mask part [] each = tt
good_in mask part (r ∷ rs) each =
    all_both IsGood (if in_mask mask r then items_of (part r) else []) (flat_map (λ q. if in_mask mask q then items_of (part q) else []) rs)
    (elim (in_mask mask r) as (λ b. AllByRecursion IsGood (if b then items_of (part r) else [])) [ true ↦ good_part (part r) (each r) | false ↦ tt ]) (good_in mask part rs each)

good_found : (f : Item → Bool) (is : List Item) → AllByRecursion IsGood is → IfSome (find f is) IsGood
good_found f [] all = tt
good_found f (i ∷ is) all = elim (f i) as (λ b. IfSome (cond b (Some i) (find f is)) IsGood) [ true ↦ all.0 | false ↦ good_found f is all.1 ]

mapped : (o : Option Item) → IfSome o IsGood → IfSome (option_map (λ (x : Item). x.update) o) IsUpdate
mapped None h = tt
mapped (Some i) h = h

-- so many updates of their form
abbrev AreUpdates : ℕ → List Update → Type 0
AreUpdates k us = (length us ≡ k) × AllByRecursion IsUpdate us

one_more : (k : ℕ) (o : Option Update) (rest : Option (List Update)) → IfSome o IsUpdate → IfSome rest (AreUpdates k)
    → IfSome (option_and_then (λ (u : Update). option_map (λ (us : List Update). u ∷ us) rest) o) (AreUpdates (suc k))
one_more k None rest h all = tt
one_more k (Some u) None h all = tt
one_more k (Some u) (Some us) h all = (ap suc all.0, (h, all.1))

from_formed : (is : List Item) (i k : ℕ) → AllByRecursion IsGood is → IfSome (updates_from is i k) (AreUpdates k)
from_formed is i zero all = (refl, tt)
from_formed is i (suc k) all =
    one_more k (update_at is i) (updates_from is (suc i) k) (mapped (find (λ x. x.position == i) is) (good_found (λ x. x.position == i) is all)) (from_formed is (suc i) k all)

by_formed : (part : ℕ → Option Part) (head : Part) → ((r : ℕ) → IfSome (part r) IsPart) → IfSome (updates_by part head) (AreUpdates head.count)
by_formed part head each =
    if_there (AreUpdates head.count) (list_all (λ r. not (in_mask head.mask r) || is_like head (part r)) REGIONS) (updates_of (items_in head.mask part) head.count)
    (if_there (AreUpdates head.count) (length (items_in head.mask part) == head.count) (updates_from (items_in head.mask part) 0 head.count)
    (from_formed (items_in head.mask part) 0 head.count (good_in head.mask part REGIONS each)))

-- the entry is a transaction of its form
abbrev IsGoodEntry : Entry → Type 0
IsGoodEntry e = IsTransaction e.transaction

made : (stamp : Stamp) (head : Part) (o : Option (List Update)) → IsPart head → IfSome o (AreUpdates head.count)
    → IfSome (option_map (λ (us : List Update). entry_of stamp head.origin.updater head.origin.serial us) o) IsGoodEntry
made stamp head None form all = tt
made stamp head (Some us) form all = record {
  origin = record { updater = form.origin.updater; serial = form.origin.serial };
  some = (let size = all.0 in let low = form.count.0 in omega (arith, size, low));
  few = (let size = all.0 in let high = form.count.1 in omega (arith, size, high));
  each = all.1;
}

one_part : (part : ℕ → Option Part) (stamp : Stamp) (o : Option Part) → ((r : ℕ) → IfSome (part r) IsPart) → IfSome o IsPart
    → IfSome (option_and_then (λ p. entry_by part stamp p) o) IsGoodEntry
one_part part stamp None each h = tt
one_part part stamp (Some p) each h = made stamp p (updates_by part p) h (by_formed part p each)

among : (part : ℕ → Option Part) (stamp : Stamp) (rs : List ℕ) → ((r : ℕ) → IfSome (part r) IsPart) → IfSome (entry_among part stamp rs) IsGoodEntry
among part stamp [] each = tt
among part stamp (r ∷ rs) each =
    either IsGoodEntry (option_and_then (λ p. entry_by part stamp p) (part r)) (entry_among part stamp rs) (one_part part stamp (part r) each (each r)) (among part stamp rs each)

read_at : (os : List (Option ReadPart)) (r : ℕ) → AllByRecursion (λ o. IfSome o IsReadPart) os → IfSome (get_or (map (option_map read_value) os) r None) IsPart
read_at [] r all = tt
read_at (None ∷ os) zero all = tt
read_at (Some p ∷ os) zero all = all.0
read_at (o ∷ os) (suc r) all = read_at os r all.1

under : (stamp : Stamp) (found : Option Transaction) → IfSome (option_map (stamped stamp) found) IsGoodEntry → IfSome found (λ t. IsTransaction (transaction_value t))
under stamp None h = tt
under stamp (Some t) h = h

-- what is found in a table of one place, whose parts have their form
pub formed_found : (t : Table) (os : List (Option ReadPart)) (found : Option Transaction) → map (λ c. part_in_column 0 c.items) t.columns.items ≡ map (option_map read_value) os
    → AllByRecursion (λ o. IfSome o IsReadPart) os → ((stamp : Stamp) → entry_among (part_at t 0) stamp REGIONS ≡ option_map (stamped stamp) found)
    → IfSome found (λ t. IsTransaction (transaction_value t))
formed_found t os found is all told =
    let any : Stamp = record { root = []; cycle = 0 } in
    let each : (r : ℕ) → IfSome (part_at t 0 r) IsPart = λ r. subst (λ (os : List (Option Part)). IfSome (get_or os r None) IsPart) (sym is) (read_at os r all) in
    under any found (subst (λ (o : Option Entry). IfSome o IsGoodEntry) (told any) (among (part_at t 0) any REGIONS each))
