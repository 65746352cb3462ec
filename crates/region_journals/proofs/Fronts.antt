-- Files whose newest journals have the first few of the records that wait.
use Rattle.std.proofs.Common.{◌≡◌, ◌≢◌, ◌≤◌, ◌<◌, ℕ, zero, suc, List, [], ◌∷◌, ◌++◌, length, take, Some, None, refl, sym, ◌∙◌, ap, subst, arith, append-nil}
use Rattle.std.specs.Prelude.{Option}
use Rattle.std.specs.List.{AllByRecursion, cons_option}
use Rattle.std.specs.Option.{option_map}
use Rattle.global_defs.specs.declared.limits.TheConstants.{MOST_REGIONS}
use Rattle.disk_defs.specs.Disk.{Files}
use Rattle.disk_defs.specs.Frames.{SameOutside}
use Rattle.disk_defs.specs.Gates.{records}
use Rattle.global_defs.specs.Entry.{Sequence}
use Rattle.journal_defs.specs.Numbers.{INSTANCE, database_file, journal_file, lost_file, broken_file}
use Rattle.journal_defs.specs.Journal.{JournalRecord, Tcom, Part, IsNoPini}
use Rattle.journal_defs.specs.Instance.{regions, site_name}
use Rattle.journal_defs.specs.Broken.{broken, broken_text}
use Rattle.journal_defs.specs.Sequence.{Placed, Records}
use Rattle.journal_defs.specs.Stands.{IsInstance, IsJournal, AreRecords}
use Rattle.journal_defs.specs.Growth.{NonePast, AreEntries, appended, placed, tcoms, with_more}
use Rattle.journal_defs.specs.Sound.{NoEpochPast}
use Rattle.journal_defs.specs.Clean.{AreClean}
use Rattle.journal_defs.specs.Fit.{IsSoundImage, HasFewNodes, IsAtHome}
use Rattle.journal_laws.proofs.Appending.{first_of_them}
use Rattle.journal_laws.proofs.ImageSteps.{all_take, entries_appended}
use Rattle.region_journals.specs.Fronts.{IsNewestFile, HasFirst, AreNewest, AreInside}
use Rattle.block_laws.proofs.Waiting.{few_regions, journal_more}
use Rattle.block_laws.proofs.Unbroken.{broken_none}

-- parts begin no generation
pub no_pini : (ps : List (ℕ → Option Part)) (r : ℕ) → AllByRecursion IsNoPini (tcoms ps r)
no_pini [] r = tt
no_pini (p ∷ ps) r = elim (p r) as (λ o. AllByRecursion IsNoPini (cons_option (option_map (λ x. Tcom x) o) (tcoms ps r))) [ None ↦ no_pini ps r | Some x ↦ (tt, no_pini ps r) ]

-- a region without parts gains none
none_appended : (g n r : ℕ) (ps : List (ℕ → Option Part)) → AreInside n ps → n ≤ r → appended g ps r ≡ []
none_appended g n r [] inside past = refl
none_appended g n r (p ∷ ps) inside past = ap (λ (o : Option Part). placed g o ++ appended g ps r) (inside.0 r past) ∙ none_appended g n r ps inside.1 past

none_taken : (k : ℕ) → take {A = Placed} k [] ≡ []
none_taken zero = refl
none_taken (suc k) = refl

module _ (d f : Files) (s : Records) (seq : Sequence) (g : ℕ) (newer : ℕ → List JournalRecord) (ps : List (ℕ → Option Part)) (kept : ℕ → ℕ)
    (image : IsSoundImage d s seq) (newest : AreNewest d s g newer) (none : NonePast (length seq) s) (inside : AreInside (length (regions s.instance)) ps)
    (same : SameOutside (IsNewestFile (suc g) (length (regions s.instance))) d f) (first : HasFirst (suc g) (length (regions s.instance)) newer (tcoms ps) kept f) where
  few : length (regions s.instance) ≤ MOST_REGIONS
  few = few_regions d s image.held

  -- the records with the first few
  abbrev more : Records
  more = with_more s (λ r. take (kept r) (appended (suc g) ps r))

  away : (file : ℕ) → ((q : ℕ) → q < MOST_REGIONS → file ≢ journal_file (suc g) q) → f file ≡ d file
  away file other = same file (λ i. other i.region (omega (arith, few, i.inside)) i.is)

  held_more : AreRecords f more
  held_more = record {
    instance = subst (λ (file : List ℕ). IsInstance file s.instance) (sym (away INSTANCE (λ q low e. omega (arith, e)))) image.held.instance;
    journals = λ r here.
        let was = image.held.journals r here in
        subst (λ (k : ℕ). (l : ℕ) × IsJournal f r k l (s.journal r ++ take (kept r) (appended (suc g) ps r))) (sym newest.generation)
        (subst (λ (js : List Placed). (l : ℕ) × IsJournal f r (suc g) l (s.journal r ++ js)) (sym (first_of_them (suc g) ps r (kept r)))
        (journal_more d f r g was.0 (s.journal r) (newer r) (take (kept r) (tcoms ps r)) (subst (λ (k : ℕ). IsJournal d r k was.0 (s.journal r)) newest.generation was.1)
        (λ h low. away (journal_file h r) (λ q below e. omega (arith, e, low, below, here, few)))
        (newest.held r here) (newest.begun r here) (all_take IsNoPini (kept r) (tcoms ps r) (no_pini ps r)) (first.each r here)));
    no_more = λ r past. ap (λ (l : List Placed). s.journal r ++ take (kept r) l) (none_appended (suc g) (length (regions s.instance)) r ps inside past)
        ∙ ap (λ (l : List Placed). s.journal r ++ l) (none_taken (kept r)) ∙ append-nil (s.journal r) ∙ image.held.no_more r past;
  }

  clean_more : (m : ℕ) → AreClean f more m
  clean_more m =
      let clean = image.clean in
      let newest_is = newest.generation in
      record {
        journals = λ h r undrawn here. ap records (away (journal_file h r) (λ q low e. omega (arith, undrawn.0, newest_is, low, few, here, e))) ∙ clean.journals h r undrawn here;
        lost = λ h undrawn. away (lost_file h) (λ q low e. omega (arith, undrawn.0, undrawn.1, newest_is, low, e)) ∙ clean.lost h undrawn;
        first_broken = λ h undrawn next.
            let no_text : broken_text (site_name s.instance) (length seq) (broken s (length seq)) ≡ [] = ap (broken_text (site_name s.instance) (length seq)) (broken_none s (length seq) none) in
            let none_here = clean.first_broken h undrawn next in
            let size : length (broken_text (site_name s.instance) (length seq) (broken s (length seq))) ≡ 0 = ap length no_text in
            let as_long : length (f (broken_file h)) ≡ length (d (broken_file h)) = ap length (away (broken_file h) (λ q low e. omega (arith, undrawn.0, undrawn.1, newest_is, low, e))) in
            omega (arith, none_here, size, as_long);
        later_broken = λ h undrawn later. away (broken_file h) (λ q low e. omega (arith, undrawn.0, undrawn.1, newest_is, low, e)) ∙ clean.later_broken h undrawn later;
      }

  pub front : (es : Sequence) → ((r : ℕ) → r < length (regions s.instance) → NoEpochPast (length seq) s.instance (s.journal r)) → AreEntries s.instance (suc g) (length seq) ps es
      → ((r : ℕ) → r < length (regions s.instance) → AllByRecursion (λ (p : Placed). IsAtHome s.instance r p.generation p.what) (appended (suc g) ps r)) → HasFewNodes (seq ++ es)
      → (j : ℕ) × (length seq ≤ j) × (j ≤ length (seq ++ es)) × IsSoundImage f (with_more s (λ r. take (kept r) (appended (suc g) ps r))) (take j (seq ++ es))
  front es epochs entries home nodes =
      entries_appended d f s seq g ps es kept image none epochs entries nodes home held_more clean_more
      (λ r here. away (database_file r) (λ q low e. omega (arith, e, here, few)))
