-- Files that gain records.
use Rattle.std.proofs.Common.{◌≡◌, ◌≢◌, inl, inr, ℕ, zero, suc, ◌≤◌, ◌<◌, ◌==◌, true, false, List, [], ◌∷◌, ◌++◌, length, map, take, Some, refl, sym, ◌∙◌, ap, subst, arith, append_assoc, append-nil, Option, None, option_map}
use Rattle.std.proofs.lemmas.Bool.{cases_eq}
use Rattle.std.proofs.lemmas.Bool.Decides.{nat_tests}
use Rattle.std.specs.List.{AllByRecursion, AllZip, cons_option, take-map}
use Rattle.global_defs.specs.declared.limits.TheConstants.{MOST_REGIONS}
use Rattle.disk_defs.specs.Disk.{Files}
use Rattle.disk_defs.specs.Gates.{Body, records}
use Rattle.journal_defs.specs.Journal.{JournalRecord, Pini, Epoch, Pblk, Tcom, Part, IsJournalBody, IsNoPini, BeginsWithPini}
use Rattle.journal_defs.specs.Sequence.{Placed, Records}
use Rattle.journal_defs.specs.Stands.{Holds, IsInstance, IsJournal, last_began, in_generation, AreRecords}
use Rattle.journal_defs.specs.Numbers.{INSTANCE, journal_file}
use Rattle.journal_defs.specs.Instance.{generation, regions}
use Rattle.journal_defs.specs.Growth.{with_journal, with_more, placed, tcoms}
use Rattle.journal_defs.specs.FileGrowth.{MayFollow, IsNewest, HasGrown}
use Rattle.journal_defs.specs.Growth as growth

pub zip_append : {R : Type 0} (P : Body → R → Type 0) (bs cs : List Body) (rs qs : List R) → AllZip P bs rs → AllZip P cs qs → AllZip P (bs ++ cs) (rs ++ qs)
zip_append P [] cs [] qs h k = k
zip_append P [] cs (r ∷ rs) qs h k = absurd h
zip_append P (b ∷ bs) cs [] qs h k = absurd h
zip_append P (b ∷ bs) cs (r ∷ rs) qs h k = (h.0, zip_append P bs cs rs qs h.1 k)

map_append : (g : ℕ) (xs ys : List JournalRecord) → map (in_generation g) (xs ++ ys) ≡ map (in_generation g) xs ++ map (in_generation g) ys
map_append g [] ys = refl
map_append g (x ∷ xs) ys = ap (λ (l : List Placed). in_generation g x ∷ l) (map_append g xs ys)

all_append : (xs ys : List JournalRecord) → AllByRecursion IsNoPini xs → AllByRecursion IsNoPini ys → AllByRecursion IsNoPini (xs ++ ys)
all_append [] ys h k = k
all_append (x ∷ xs) ys h k = (h.0, all_append xs ys h.1 k)

begins_more : (r g last : ℕ) (ys xs : List JournalRecord) → BeginsWithPini r g last ys → MayFollow r g last ys xs → BeginsWithPini r g last (ys ++ xs)
begins_more r g last [] xs h k = k
begins_more r g last (Pini s ∷ ys) xs h k = (h.0, h.1, h.2, all_append ys xs h.3 k)
begins_more r g last (Epoch m ∷ ys) xs h k = absurd h
begins_more r g last (Pblk b ∷ ys) xs h k = absurd h
begins_more r g last (Tcom p ∷ ys) xs h k = absurd h

pub journal_same : (old new : Files) (q g last : ℕ) (js : List Placed) → ((h : ℕ) → h ≤ g → new (journal_file h q) ≡ old (journal_file h q)) → IsJournal old q g last js → IsJournal new q g last js
journal_same old new q zero last js same h = h
journal_same old new q (suc g) last js same h = (
  h.0,
  h.1,
  h.2,
  journal_same old new q g h.0 h.1 (λ k low. same k (omega arith)) h.3,
  subst (λ (file : List ℕ). Holds IsJournalBody file h.2) (sym (same (suc g) (omega arith))) h.4,
  h.5,
  h.6,
  h.7,
)

other_file : (h g q r : ℕ) → q < MOST_REGIONS → r < MOST_REGIONS → (h ≡ g → q ≡ r → ⊥) → journal_file h q ≢ journal_file g r
other_file h g q r low low2 other same = other (omega arith) (omega arith)

pub here : (s : Records) (r : ℕ) (ps : List Placed) → (with_journal s r ps).journal r ≡ s.journal r ++ ps
here s r ps = let yes : (r == r) ≡ true = grind (arith, nat_tests) in rw yes refl

pub there : (s : Records) (r q : ℕ) (ps : List Placed) → q ≢ r → (with_journal s r ps).journal q ≡ s.journal q
there s r q ps other = let differs : (q == r) ≡ false = grind (arith, nat_tests) in rw differs refl

newest_more : (old new : Files) (r g last : ℕ) (older : List Placed) (newer xs : List JournalRecord) (bodies more : List Body)
    → IsNewest old r g last older newer → ((h : ℕ) → h ≤ g → new (journal_file h r) ≡ old (journal_file h r))
    → records (old (journal_file (suc g) r)) ≡ Some bodies → records (new (journal_file (suc g) r)) ≡ Some (bodies ++ more)
    → AllZip IsJournalBody more xs → MayFollow r (suc g) last newer xs
    → IsJournal new r (suc g) (last_began last (suc g) (newer ++ xs)) ((older ++ map (in_generation (suc g)) newer) ++ map (in_generation (suc g)) xs)
newest_more old new r g last older newer xs bodies more newest same old_is new_is zipped may =
    let mine = newest.newer_is in
    let bs : mine.0 ≡ bodies = (let a : records (old (journal_file (suc g) r)) ≡ Some mine.0 = mine.1 in cc) in (
      last,
      older,
      newer ++ xs,
      journal_same old new r g last older same newest.older_is,
      (bodies ++ more, new_is, zip_append IsJournalBody bodies more newer xs (subst (λ (l : List Body). AllZip IsJournalBody l newer) bs mine.2) zipped),
      begins_more r (suc g) last newer xs newest.begins may,
      refl,
      append_assoc older (map (in_generation (suc g)) newer) (map (in_generation (suc g)) xs) ∙ ap (λ (l : List Placed). older ++ l) (sym (map_append (suc g) newer xs)),
    )

pub appended : (old new : Files) (s : Records) (r g last : ℕ) (older : List Placed) (newer xs : List JournalRecord) (bodies more : List Body)
    → AreRecords old s → generation s.instance ≡ suc g → r < length (regions s.instance) → length (regions s.instance) ≤ MOST_REGIONS
    → IsNewest old r g last older newer → s.journal r ≡ older ++ map (in_generation (suc g)) newer
    → ((f : ℕ) → f ≢ journal_file (suc g) r → new f ≡ old f)
    → records (old (journal_file (suc g) r)) ≡ Some bodies → records (new (journal_file (suc g) r)) ≡ Some (bodies ++ more)
    → AllZip IsJournalBody more xs → MayFollow r (suc g) last newer xs
    → AreRecords new (with_journal s r (map (in_generation (suc g)) xs))
appended old new s r g last older newer xs bodies more held top mine few newest is same old_is new_is zipped may = record {
  instance = subst (λ (file : List ℕ). IsInstance file s.instance) (sym (same 0 (λ e. omega arith))) held.instance;
  journals = each;
  no_more = λ q past. there s r q (map (in_generation (suc g)) xs) (λ e. omega arith) ∙ held.no_more q past;
}
  where
    each : (q : ℕ) → q < length (regions s.instance) → (l : ℕ) × IsJournal new q (generation s.instance) l ((with_journal s r (map (in_generation (suc g)) xs)).journal q)
    each q low = elim (cases_eq q r) [
      | inl e ↦ (
        last_began last (suc g) (newer ++ xs),
        subst (λ (k : ℕ). IsJournal new q k (last_began last (suc g) (newer ++ xs)) ((with_journal s r (map (in_generation (suc g)) xs)).journal q)) (sym top)
            (subst (λ (k : ℕ). IsJournal new k (suc g) (last_began last (suc g) (newer ++ xs)) ((with_journal s r (map (in_generation (suc g)) xs)).journal k)) (sym e)
            (subst (λ (js : List Placed). IsJournal new r (suc g) (last_began last (suc g) (newer ++ xs)) js) (sym (here s r (map (in_generation (suc g)) xs) ∙ ap (λ (js : List Placed). js ++ map (in_generation (suc g)) xs) is))
            (newest_more old new r g last older newer xs bodies more newest (λ h low_h. same (journal_file h r) (other_file h (suc g) r r (omega arith) (omega arith) (λ e f. omega arith))) old_is new_is zipped may))),
      )
      | inr other ↦
          let theirs = held.journals q low in (
            theirs.0,
            subst (λ (js : List Placed). IsJournal new q (generation s.instance) theirs.0 js) (sym (there s r q (map (in_generation (suc g)) xs) other))
                (journal_same old new q (generation s.instance) theirs.0 (s.journal q) (λ h high. same (journal_file h q) (other_file h (suc g) q r (omega arith) (omega arith) (λ a b. other b))) theirs.1),
          )
    ]

pub all_regions : (old new : Files) (s : Records) (g : ℕ) (xs : ℕ → List JournalRecord) → AreRecords old s → generation s.instance ≡ suc g
    → new INSTANCE ≡ old INSTANCE → ((h r : ℕ) → h ≤ g → new (journal_file h r) ≡ old (journal_file h r))
    → ((r : ℕ) → r < length (regions s.instance) → HasGrown old new r g (s.journal r) (xs r)) → ((r : ℕ) → length (regions s.instance) ≤ r → xs r ≡ [])
    → AreRecords new (with_more s (λ r. map (in_generation (suc g)) (xs r)))
all_regions old new s g xs held top instance same grown none = record {
  instance = subst (λ (file : List ℕ). IsInstance file s.instance) (sym instance) held.instance;
  journals = λ r low.
      let h = grown r low in (
        last_began h.last (suc g) (h.newer ++ xs r),
        subst (λ (k : ℕ). IsJournal new r k (last_began h.last (suc g) (h.newer ++ xs r)) (s.journal r ++ map (in_generation (suc g)) (xs r))) (sym top)
            (subst (λ (js : List Placed). IsJournal new r (suc g) (last_began h.last (suc g) (h.newer ++ xs r)) (js ++ map (in_generation (suc g)) (xs r))) (sym h.whole)
            (newest_more old new r g h.last h.older h.newer (xs r) h.bodies h.more h.newest (λ k low_k. same k r low_k) h.before h.after h.spelled h.follows)),
      );
  no_more = λ r past. ap (λ (ys : List JournalRecord). s.journal r ++ map (in_generation (suc g)) ys) (none r past) ∙ append-nil (s.journal r) ∙ held.no_more r past;
}

pub appended_is : (g : ℕ) (ps : List (ℕ → Option Part)) (r : ℕ) → growth.appended g ps r ≡ map (in_generation g) (tcoms ps r)
appended_is g [] r = refl
appended_is g (p ∷ ps) r = elim (p r) as (λ o. placed g o ++ growth.appended g ps r ≡ map (in_generation g) (cons_option (option_map (λ x. Tcom x) o) (tcoms ps r))) [
  | None ↦ appended_is g ps r
  | Some x ↦ ap (λ (js : List Placed). in_generation g (Tcom x) ∷ js) (appended_is g ps r)
]

pub first_of_them : (g : ℕ) (ps : List (ℕ → Option Part)) (r k : ℕ) → take k (growth.appended g ps r) ≡ map (in_generation g) (take k (tcoms ps r))
first_of_them g ps r k = ap (take k) (appended_is g ps r) ∙ take-map (in_generation g) k (tcoms ps r)
