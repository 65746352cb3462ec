-- Instance files that gain a CUT.
use Rattle.std.proofs.Common.{◌≡◌, ◌≢◌, inl, inr, ℕ, zero, suc, ◌+◌, ◌-◌, ◌≤◌, ◌<◌, Bool, List, [], ◌∷◌, ◌++◌, length, map, filter, Some, refl, sym, subst, arith, append-nil}
use Rattle.std.proofs.lemmas.Bool.{cases_lt, cases_Bool}
use Rattle.std.specs.List.{AllByRecursion, AllZip}
use Rattle.disk_defs.specs.Disk.{Files}
use Rattle.disk_defs.specs.Gates.{Body, records}
use Rattle.global_defs.specs.Entry.{Reign}
use Rattle.global_defs.specs.Rising.{StartsRise}
use Rattle.global_defs.specs.Region.{Region}
use Rattle.journal_defs.specs.Journal.{JournalRecord}
use Rattle.journal_defs.specs.Instance.{InstanceRecord, Create, Reigned, Cut, Map, Mode, IsInstanceBody, IsNoCreate, BeginsWithCreate, CutsRise, generation, regions}
use Rattle.journal_defs.specs.Surviving.{reigns}
use Rattle.journal_defs.specs.Sequence.{Placed, Records}
use Rattle.journal_defs.specs.Growth.{with_record, IsBefore}
use Rattle.journal_defs.specs.Numbers.{INSTANCE, journal_file}
use Rattle.journal_defs.specs.Stands.{Holds, IsJournal, in_generation, AreRecords}
use Rattle.journal_laws.proofs.Runs.{reigns-cut, starts_by}
use Rattle.journal_laws.proofs.Appending.{zip_append, journal_same}

pub generation-cut : (rs : List InstanceRecord) (t g : ℕ) → generation rs < g → generation (rs ++ Cut t g ∷ []) ≡ g
generation-cut [] t g low = omega arith
generation-cut (Cut n h ∷ rs) t g low = let rest : generation (rs ++ Cut t g ∷ []) ≡ g = generation-cut rs t g (omega arith) in omega arith
generation-cut (Create name qs ∷ rs) t g low = generation-cut rs t g low
generation-cut (Reigned r ∷ rs) t g low = generation-cut rs t g low
generation-cut (Map region star name ∷ rs) t g low = generation-cut rs t g low
generation-cut (Mode region before ∷ rs) t g low = generation-cut rs t g low

cuts_more : (rs : List InstanceRecord) (low t g : ℕ) → CutsRise low rs → low < g → generation rs < g → CutsRise low (rs ++ Cut t g ∷ [])
cuts_more [] low t g h above all = (above, tt)
cuts_more (Cut n k ∷ rs) low t g h above all = (h.0, cuts_more rs k t g h.1 (omega arith) (omega arith))
cuts_more (Create name qs ∷ rs) low t g h above all = cuts_more rs low t g h above all
cuts_more (Reigned r ∷ rs) low t g h above all = cuts_more rs low t g h above all
cuts_more (Map region star name ∷ rs) low t g h above all = cuts_more rs low t g h above all
cuts_more (Mode region before ∷ rs) low t g h above all = cuts_more rs low t g h above all

no_create : (rs : List InstanceRecord) (t g : ℕ) → AllByRecursion IsNoCreate rs → AllByRecursion IsNoCreate (rs ++ Cut t g ∷ [])
no_create [] t g h = (tt, tt)
no_create (r ∷ rs) t g h = (h.0, no_create rs t g h.1)

create_more : (rs : List InstanceRecord) (t g : ℕ) → 1 ≤ length (regions rs) → BeginsWithCreate rs → BeginsWithCreate (rs ++ Cut t g ∷ [])
create_more [] t g some h = absurd (omega arith)
create_more (Create name qs ∷ rs) t g some h = no_create rs t g h
create_more (Cut n k ∷ rs) t g some h = absurd h
create_more (Reigned r ∷ rs) t g some h = absurd h
create_more (Map region star name ∷ rs) t g some h = absurd h
create_more (Mode region before ∷ rs) t g some h = absurd h

pub same_regions : (rs : List InstanceRecord) (t g : ℕ) → 1 ≤ length (regions rs) → regions (rs ++ Cut t g ∷ []) ≡ regions rs
same_regions [] t g some = absurd (omega arith)
same_regions (Create name qs ∷ rs) t g some = refl
same_regions (Cut n k ∷ rs) t g some = absurd (omega arith)
same_regions (Reigned r ∷ rs) t g some = absurd (omega arith)
same_regions (Map region star name ∷ rs) t g some = absurd (omega arith)
same_regions (Mode region before ∷ rs) t g some = absurd (omega arith)

starts_lower : (rs : List Reign) (low high : ℕ) → low ≤ high → StartsRise high rs → StartsRise low rs
starts_lower [] low high le h = tt
starts_lower (r ∷ rs) low high le h = (omega (arith, h.0), h.1)

starts_kept : (f : Reign → Bool) (rs : List Reign) (low : ℕ) → StartsRise low rs → StartsRise low (filter f rs)
starts_kept f [] low h = tt
starts_kept f (r ∷ rs) low h = elim (cases_Bool (f r)) [
  | inl stays ↦ rw stays (h.0, starts_kept f rs r.start h.1)
  | inr goes ↦ rw goes (starts_kept f rs low (starts_lower rs low r.start (omega (arith, h.0)) h.1))
]

-- generations without records change nothing
pub journal_empty : (files : Files) (r g last : ℕ) (js : List Placed) → records (files (journal_file (suc g) r)) ≡ Some [] → IsJournal files r g last js → IsJournal files r (suc g) last js
journal_empty files r g last js none h = (last, js, [], h, ([], none, tt), tt, refl, sym (append-nil js))

journal_later : (files : Files) (r g more last : ℕ) (js : List Placed) → ((h : ℕ) → g < h → h ≤ more + g → records (files (journal_file h r)) ≡ Some []) → IsJournal files r g last js → IsJournal files r (more + g) last js
journal_later files r g zero last js none h = let same : g ≡ 0 + g = omega arith in subst (λ (k : ℕ). IsJournal files r k last js) same h
journal_later files r g (suc more) last js none h =
    let next : suc (more + g) ≡ suc more + g = omega arith in
    subst (λ (k : ℕ). IsJournal files r k last js) next
    (journal_empty files r (more + g) last js (none (suc (more + g)) (omega arith) (omega arith)) (journal_later files r g more last js (λ k low high. none k low (omega arith)) h))

pub cut : (old new : Files) (s : Records) (t g : ℕ) (bodies : List Body) (body : Body)
    → AreRecords old s → 1 ≤ length (regions s.instance) → generation s.instance < g
    → ((h r : ℕ) → generation s.instance < h → h ≤ g → r < length (regions s.instance) → records (old (journal_file h r)) ≡ Some [])
    → ((f : ℕ) → f ≢ INSTANCE → new f ≡ old f)
    → records (old INSTANCE) ≡ Some bodies → records (new INSTANCE) ≡ Some (bodies ++ body ∷ []) → IsInstanceBody body (Cut t g)
    → AreRecords new (with_record s (Cut t g))
cut old new s t g bodies body held some past clean same old_is new_is spelled = record {
  instance = record {
    bodies = (bodies ++ body ∷ [], new_is, zip_append IsInstanceBody bodies (body ∷ []) s.instance (Cut t g ∷ []) (subst (λ (l : List Body). AllZip IsInstanceBody l s.instance) are mine.2) (spelled, tt));
    create = create_more s.instance t g some held.instance.create;
    cuts = cuts_more s.instance 0 t g held.instance.cuts (omega arith) past;
    reigns = subst (StartsRise 0) (sym (reigns-cut s.instance t g)) (starts_kept (starts_by t) (reigns s.instance) 0 held.instance.reigns);
  };
  journals = λ r low.
      let here : r < length (regions s.instance) = subst (λ (l : List Region). r < length l) (same_regions s.instance t g some) low in
      let theirs = held.journals r here in
      let gap : g ≡ (g - generation s.instance) + generation s.instance = omega arith in (
        theirs.0,
        subst (λ (k : ℕ). IsJournal new r k theirs.0 (s.journal r)) (sym (generation-cut s.instance t g past))
            (journal_same old new r g theirs.0 (s.journal r) (λ h low. same (journal_file h r) (λ e. omega arith))
            (subst (λ (k : ℕ). IsJournal old r k theirs.0 (s.journal r)) (sym gap)
            (journal_later old r (generation s.instance) (g - generation s.instance) theirs.0 (s.journal r) (λ h low high. clean h r low (omega arith) here) theirs.1))),
      );
  no_more = λ r low. held.no_more r (subst (λ (l : List Region). length l ≤ r) (same_regions s.instance t g some) low);
}
  where
    mine : Holds IsInstanceBody (old INSTANCE) s.instance
    mine = held.instance.bodies

    are : mine.0 ≡ bodies
    are = let a : records (old INSTANCE) ≡ Some mine.0 = mine.1 in cc

all_before : (xs ys : List Placed) (g : ℕ) → AllByRecursion (λ p. p.generation < g) xs → AllByRecursion (λ p. p.generation < g) ys → AllByRecursion (λ p. p.generation < g) (xs ++ ys)
all_before [] ys g h k = k
all_before (x ∷ xs) ys g h k = (h.0, all_before xs ys g h.1 k)

put_before : (xs : List JournalRecord) (h g : ℕ) → h < g → AllByRecursion (λ p. p.generation < g) (map (in_generation h) xs)
put_before [] h g low = tt
put_before (x ∷ xs) h g low = (low, put_before xs h g low)

journal_before : (files : Files) (r h last g : ℕ) (js : List Placed) → IsJournal files r h last js → h < g → AllByRecursion (λ p. p.generation < g) js
journal_before files r zero last g js h low = subst (AllByRecursion (λ p. p.generation < g)) (sym h.1) tt
journal_before files r (suc k) last g js h low =
    subst (AllByRecursion (λ p. p.generation < g)) (sym h.7) (all_before h.1 (map (in_generation (suc k)) h.2) g (journal_before files r k h.0 g h.1 h.3 (omega arith)) (put_before h.2 (suc k) g low))

pub before : (files : Files) (s : Records) (g : ℕ) → AreRecords files s → generation s.instance < g → IsBefore g s
before files s g held low r = elim (cases_lt r (length (regions s.instance))) [
  | inl here ↦ let theirs = held.journals r here in journal_before files r (generation s.instance) theirs.0 g (s.journal r) theirs.1 low
  | inr past ↦ subst (AllByRecursion (λ p. p.generation < g)) (sym (held.no_more r past)) tt
]
