-- Files past the newest generation.
use Rattle.std.proofs.Common.{◌≡◌, ◌≢◌, ℕ, ◌+◌, ◌≤◌, ◌<◌, List, [], ◌∷◌, ◌++◌, length, sym, ◌∙◌, ap, subst, arith}
use Rattle.global_defs.specs.declared.limits.TheConstants.{MOST_REGIONS}
use Rattle.global_defs.specs.Region.{Region}
use Rattle.disk_defs.specs.Disk.{Files}
use Rattle.disk_defs.specs.Gates.{records}
use Rattle.journal_defs.specs.Numbers.{INSTANCE, journal_file, lost_file, broken_file}
use Rattle.journal_defs.specs.Instance.{InstanceRecord, Cut, generation, regions, site_name}
use Rattle.journal_defs.specs.Sequence.{Records}
use Rattle.journal_defs.specs.Broken.{broken, broken_text}
use Rattle.journal_defs.specs.Growth.{with_record}
use Rattle.journal_defs.specs.Clean.{AreClean}
use Rattle.journal_laws.proofs.Drawing.{generation-cut, same_regions}

pub cut : (old new : Files) (s : Records) (t g n m : ℕ) → AreClean old s n → 1 ≤ length (regions s.instance) → generation s.instance < g
    → ((f : ℕ) → f ≢ INSTANCE → new f ≡ old f) → AreClean new (with_record s (Cut t g)) m
cut old new s t g n m clean some past same =
    let newest : generation (s.instance ++ Cut t g ∷ []) ≡ g = generation-cut s.instance t g past in
    record {
      journals = λ h r undrawn here.
          ap records (same (journal_file h r) (λ e. omega arith))
          ∙ clean.journals h r (omega (arith, newest, past, undrawn.0), undrawn.1) (subst (λ (l : List Region). r < length l) (same_regions s.instance t g some) here);
      lost = λ h undrawn. same (lost_file h) (λ e. omega arith) ∙ clean.lost h (omega (arith, newest, past, undrawn.0), undrawn.1);
      first_broken = λ h undrawn first.
          let none : new (broken_file h) ≡ [] = same (broken_file h) (λ e. omega arith) ∙ clean.later_broken h (omega (arith, newest, past, undrawn.0), undrawn.1) (omega (arith, newest, past, undrawn.0)) in
          let empty : length (new (broken_file h)) ≡ 0 = ap length none in
          omega (arith, empty);
      later_broken = λ h undrawn later. same (broken_file h) (λ e. omega arith) ∙ clean.later_broken h (omega (arith, newest, past, undrawn.0), undrawn.1) (omega (arith, newest, past, undrawn.0));
    }

pub broken_written : (old new : Files) (s : Records) (n : ℕ) → AreClean old s n → length (regions s.instance) ≤ MOST_REGIONS
    → ((f : ℕ) → f ≢ broken_file (generation s.instance + 1) → new f ≡ old f)
    → length (new (broken_file (generation s.instance + 1))) ≤ length (broken_text (site_name s.instance) n (broken s n)) → AreClean new s n
broken_written old new s n clean few same short = record {
  journals = λ h r undrawn here. ap records (same (journal_file h r) (λ e. omega (arith, undrawn.1, few, here))) ∙ clean.journals h r undrawn here;
  lost = λ h undrawn. same (lost_file h) (λ e. omega (arith, undrawn.1)) ∙ clean.lost h undrawn;
  first_broken = λ h undrawn first. subst (λ (k : ℕ). length (new (broken_file k)) ≤ length (broken_text (site_name s.instance) n (broken s n))) (sym first) short;
  later_broken = λ h undrawn later. same (broken_file h) (λ e. omega (arith, later)) ∙ clean.later_broken h undrawn later;
}

pub other_files : (old new : Files) (s u : Records) (n m : ℕ) → AreClean old s n → u.instance ≡ s.instance → old (broken_file (generation s.instance + 1)) ≡ []
    → ((g r : ℕ) → generation s.instance < g → new (journal_file g r) ≡ old (journal_file g r)) → ((g : ℕ) → generation s.instance < g → new (lost_file g) ≡ old (lost_file g))
    → ((g : ℕ) → generation s.instance < g → new (broken_file g) ≡ old (broken_file g)) → AreClean new u m
other_files old new s u n m clean same empty journals lost texts = record {
  journals = λ h r undrawn here. ap records (journals h r (back undrawn.0)) ∙ clean.journals h r (back undrawn.0, undrawn.1) (subst (λ (l : List InstanceRecord). r < length (regions l)) same here);
  lost = λ h undrawn. lost h (back undrawn.0) ∙ clean.lost h (back undrawn.0, undrawn.1);
  first_broken = λ h undrawn first.
      let now : h ≡ generation s.instance + 1 = first ∙ ap (λ (l : List InstanceRecord). generation l + 1) same in
      let none : new (broken_file h) ≡ [] = texts h (back undrawn.0) ∙ subst (λ (k : ℕ). old (broken_file k) ≡ []) (sym now) empty in
      let no_byte : length (new (broken_file h)) ≡ 0 = ap length none in
      omega (arith, no_byte);
  later_broken = λ h undrawn later. texts h (back undrawn.0) ∙ clean.later_broken h (back undrawn.0, undrawn.1) (subst (λ (l : List InstanceRecord). generation l + 1 < h) same later);
}
  where
    back : {h : ℕ} → generation u.instance < h → generation s.instance < h
    back {h} past = subst (λ (l : List InstanceRecord). generation l < h) same past
