-- Entries of files are transactions of their form.
use Rattle.std.proofs.Common.{◌≡◌, inl, inr, ℕ, zero, suc, ◌==◌, ◌&&◌, ◌||◌, Bool, true, false, cond, List, [], ◌∷◌, length, map, flat_map, find, Option, Some, None, refl, sym, ap, subst, arith, option_map, if◌then◌else◌}
use Rattle.std.proofs.lemmas.Bool.{cases_lt}
use Rattle.std.specs.Prelude.{not}
use Rattle.std.specs.List.{AllByRecursion, AllZip, list_all}
use Rattle.std.specs.Option.{option_or, option_and_then}
use Rattle.disk_defs.specs.Disk.{Files}
use Rattle.disk_defs.specs.Gates.{Body}
use Rattle.global_defs.specs.Entry.{Update, Stamp, Entry, Sequence}
use Rattle.global_defs.specs.Fields.{IsUpdate, IsTransaction}
use Rattle.global_defs.specs.Prefix.{stamp_at}
use Rattle.global_defs.specs.Serial.{entry_of}
use Rattle.journal_defs.specs.Journal.{JournalRecord, Pini, Epoch, Pblk, Tcom, Part, Item, IsInForm, IsPart, IsItem, IsJournalBody}
use Rattle.journal_defs.specs.Instance.{InstanceRecord, generation, regions}
use Rattle.journal_defs.specs.Surviving.{survives, reigns}
use Rattle.journal_defs.specs.Sequence.{Placed, Records, parts, part_in, part_of, REGIONS, in_mask, is_like, items_of, items_in, update_at, updates_from, updates_of, updates_by, entry_by, entry_among, entry_with, entry, EntriesFrom, IsSequence}
use Rattle.journal_defs.specs.Stands.{in_generation, IsJournal, AreRecords}
use Rattle.journal_laws.proofs.ImageSteps.{all_both}
use Rattle.block_laws.specs.Nodes.{AreFormed}

bodies_formed : (g : ℕ) (bodies : List Body) (xs : List JournalRecord) → AllZip IsJournalBody bodies xs → AreFormed (map (in_generation g) xs)
bodies_formed g [] [] all = tt
bodies_formed g [] (x ∷ xs) all = absurd all
bodies_formed g (b ∷ bs) [] all = absurd all
bodies_formed g (b ∷ bs) (x ∷ xs) all = (all.0.form, bodies_formed g bs xs all.1)

journal_formed : (files : Files) (r g last : ℕ) (js : List Placed) → IsJournal files r g last js → AreFormed js
journal_formed files r zero last js h = subst AreFormed (sym h.1) tt
journal_formed files r (suc g) last js h =
    subst AreFormed (sym h.7) (all_both (λ p. IsInForm p.what) h.1 (map (in_generation (suc g)) h.2) (journal_formed files r g h.0 h.1 h.3) (bodies_formed (suc g) h.4.0 h.2 h.4.2))

pub formed : (files : Files) (s : Records) (r : ℕ) → AreRecords files s → AreFormed (s.journal r)
formed files s r held = elim (cases_lt r (length (regions s.instance))) [
  | inl low ↦ (let j = held.journals r low in journal_formed files r (generation s.instance) j.0 (s.journal r) j.1)
  | inr past ↦ subst AreFormed (sym (held.no_more r past)) tt
]

-- what there is has this form
abbrev IfThere : {X : Type 0} → (X → Type 0) → Option X → Type 0
IfThere P None = Unit {0}
IfThere P (Some x) = P x

either : {X : Type 0} (P : X → Type 0) (o p : Option X) → IfThere P o → IfThere P p → IfThere P (option_or o p)
either P None p h k = k
either P (Some x) p h k = h

if_there : {X : Type 0} (P : X → Type 0) (b : Bool) (o : Option X) → IfThere P o → IfThere P (if b then o else None)
if_there P true o h = h
if_there P false o h = tt

part_in-formed : (instance : List InstanceRecord) (n g : ℕ) (what : JournalRecord) → IsInForm what → IfThere IsPart (part_in instance n g what)
part_in-formed instance n g (Tcom p) form = if_there IsPart (p.number == n && survives instance g n) (Some p) form
part_in-formed instance n g (Pini s) form = tt
part_in-formed instance n g (Epoch m) form = tt
part_in-formed instance n g (Pblk b) form = tt

part_of-formed : (instance : List InstanceRecord) (n : ℕ) (ps : List Placed) → AreFormed ps → IfThere IsPart (part_of instance n ps)
part_of-formed instance n [] all = tt
part_of-formed instance n (p ∷ ps) all = either IsPart (part_of instance n ps) (part_in instance n p.generation p.what) (part_of-formed instance n ps all.1) (part_in-formed instance n p.generation p.what all.0)

-- items
abbrev IsGood : Item → Type 0
IsGood i = IsUpdate i.update

good_items : (count : ℕ) (is : List Item) → AllByRecursion (IsItem count) is → AllByRecursion IsGood is
good_items count [] all = tt
good_items count (i ∷ is) all = (all.0.update, good_items count is all.1)

good_part : (o : Option Part) → IfThere IsPart o → AllByRecursion IsGood (items_of o)
good_part None h = tt
good_part (Some p) h = good_items p.count p.items h.items

good_in : (mask : ℕ) (part : ℕ → Option Part) (rs : List ℕ) → ((r : ℕ) → IfThere IsPart (part r)) → AllByRecursion IsGood (flat_map (λ r. if in_mask mask r then items_of (part r) else []) rs)
good_in mask part [] each = tt
good_in mask part (r ∷ rs) each =
    all_both IsGood (if in_mask mask r then items_of (part r) else []) (flat_map (λ q. if in_mask mask q then items_of (part q) else []) rs)
    (elim (in_mask mask r) as (λ b. AllByRecursion IsGood (if b then items_of (part r) else [])) [ true ↦ good_part (part r) (each r) | false ↦ tt ]) (good_in mask part rs each)

good_found : (f : Item → Bool) (is : List Item) → AllByRecursion IsGood is → IfThere IsGood (find f is)
good_found f [] all = tt
good_found f (i ∷ is) all = elim (f i) as (λ b. IfThere IsGood (cond b (Some i) (find f is))) [ true ↦ all.0 | false ↦ good_found f is all.1 ]

mapped : (o : Option Item) → IfThere IsGood o → IfThere IsUpdate (option_map (λ (x : Item). x.update) o)
mapped None h = tt
mapped (Some i) h = h

-- so many updates of their form
abbrev AreUpdates : ℕ → List Update → Type 0
AreUpdates k us = (length us ≡ k) × AllByRecursion IsUpdate us

one_more : (k : ℕ) (o : Option Update) (rest : Option (List Update)) → IfThere IsUpdate o → IfThere (AreUpdates k) rest
    → IfThere (AreUpdates (suc k)) (option_and_then (λ (u : Update). option_map (λ (us : List Update). u ∷ us) rest) o)
one_more k None rest h all = tt
one_more k (Some u) None h all = tt
one_more k (Some u) (Some us) h all = (ap suc all.0, (h, all.1))

from_formed : (is : List Item) (i k : ℕ) → AllByRecursion IsGood is → IfThere (AreUpdates k) (updates_from is i k)
from_formed is i zero all = (refl, tt)
from_formed is i (suc k) all =
    one_more k (update_at is i) (updates_from is (suc i) k) (mapped (find (λ x. x.position == i) is) (good_found (λ x. x.position == i) is all)) (from_formed is (suc i) k all)

by_formed : (part : ℕ → Option Part) (head : Part) → ((r : ℕ) → IfThere IsPart (part r)) → IfThere (AreUpdates head.count) (updates_by part head)
by_formed part head each =
    if_there (AreUpdates head.count) (list_all (λ r. not (in_mask head.mask r) || is_like head (part r)) REGIONS) (updates_of (items_in head.mask part) head.count)
    (if_there (AreUpdates head.count) (length (items_in head.mask part) == head.count) (updates_from (items_in head.mask part) 0 head.count)
    (from_formed (items_in head.mask part) 0 head.count (good_in head.mask part REGIONS each)))

-- the entry is a transaction of its form
abbrev IsGoodEntry : Entry → Type 0
IsGoodEntry e = IsTransaction e.transaction

made : (stamp : Stamp) (head : Part) (o : Option (List Update)) → IsPart head → IfThere (AreUpdates head.count) o
    → IfThere IsGoodEntry (option_map (λ (us : List Update). entry_of stamp head.origin.updater head.origin.serial us) o)
made stamp head None form all = tt
made stamp head (Some us) form all = record {
  origin = record { updater = form.origin.updater; serial = form.origin.serial };
  some = (let size = all.0 in let low = form.count.0 in omega (arith, size, low));
  few = (let size = all.0 in let high = form.count.1 in omega (arith, size, high));
  each = all.1;
}

one_part : (part : ℕ → Option Part) (stamp : Stamp) (o : Option Part) → ((r : ℕ) → IfThere IsPart (part r)) → IfThere IsPart o
    → IfThere IsGoodEntry (option_and_then (λ p. entry_by part stamp p) o)
one_part part stamp None each h = tt
one_part part stamp (Some p) each h = made stamp p (updates_by part p) h (by_formed part p each)

among : (part : ℕ → Option Part) (stamp : Stamp) (rs : List ℕ) → ((r : ℕ) → IfThere IsPart (part r)) → IfThere IsGoodEntry (entry_among part stamp rs)
among part stamp [] each = tt
among part stamp (r ∷ rs) each =
    either IsGoodEntry (option_and_then (λ p. entry_by part stamp p) (part r)) (entry_among part stamp rs) (one_part part stamp (part r) each (each r)) (among part stamp rs each)

with_stamp : (part : ℕ → Option Part) (o : Option Stamp) → ((r : ℕ) → IfThere IsPart (part r)) → IfThere IsGoodEntry (entry_with part o)
with_stamp part None each = tt
with_stamp part (Some stamp) each = among part stamp REGIONS each

run : (at : ℕ → Option Entry) (n : ℕ) (seq : Sequence) → ((k : ℕ) → IfThere IsGoodEntry (at k)) → EntriesFrom at n seq → AllByRecursion (λ e. IsTransaction e.transaction) seq
run at n [] each h = tt
run at n (e ∷ es) each h = (subst (IfThere IsGoodEntry) h.0 (each n), run at (suc n) es each h.1)

pub entries_of : (s : Records) (seq : Sequence) → ((r : ℕ) → AreFormed (s.journal r)) → IsSequence s seq → AllByRecursion (λ e. IsTransaction e.transaction) seq
entries_of s seq all is = run (entry s) 1 seq (λ n. with_stamp (parts s n) (stamp_at n (reigns s.instance)) (λ r. part_of-formed s.instance n (s.journal r) (all r))) is.each

pub entries : (files : Files) (s : Records) (seq : Sequence) → AreRecords files s → IsSequence s seq → AllByRecursion (λ e. IsTransaction e.transaction) seq
entries files s seq held is = entries_of s seq (λ r. formed files s r held) is
