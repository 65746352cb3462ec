-- Records that were read, whatever their generation.
use Rattle.std.proofs.Common.{◌≡◌, inl, inr, ℕ, ◌≤◌, ◌<◌, List, [], ◌∷◌, length, Option, None, IfSome, sym, ◌∙◌, ap, subst, arith}
use Rattle.std.specs.List.{AllByRecursion}
use Rattle.std.proofs.lemmas.Bool.{cases_lt}
use Rattle.global_defs.specs.declared.limits.TheConstants.{MOST_GENERATIONS}
use Rattle.disk_defs.specs.Disk.{Files}
use Rattle.disk_defs.proofs.Told.{weaker_told, both_weak}
use Rattle.global_defs.specs.Entry.{Sequence}
use Rattle.journal_defs.specs.Numbers.{INSTANCE}
use Rattle.journal_defs.specs.Instance.{InstanceRecord, Create, Reigned, Cut, Map, Mode, IsInForm, generation, regions}
use Rattle.journal_defs.specs.Sequence.{Placed, Records}
use Rattle.journal_defs.specs.Stands.{IsInstance, IsJournal, AreRecords}
use Rattle.entry_index.specs.declared.placed.PlacedSign.{PlacedSign}
use Rattle.entry_index.specs.declared.index.EntryIndex.{EntryIndex}
use Rattle.entry_index.specs.Found.{AreFound, HaveFound}
use Rattle.site_files.specs.Loading.{IsDirectory}
use Rattle.site_files.specs.Reading.{HoldNoSite}
use Rattle.site_defs.specs.Outside.{HaveJournals}
use Rattle.site_files.proofs.WhatIsRead.{instance_one}
use Rattle.site_files.proofs.Counts.{are_found}

pub generation_low : (rs : List InstanceRecord) → AllByRecursion IsInForm rs → generation rs ≤ MOST_GENERATIONS
generation_low [] form = omega arith
generation_low (Cut n g ∷ rs) form = let high = form.0.2 in let rest = generation_low rs form.1 in omega (arith, high, rest)
generation_low (Create name named ∷ rs) form = generation_low rs form.1
generation_low (Reigned r ∷ rs) form = generation_low rs form.1
generation_low (Map region star name ∷ rs) form = generation_low rs form.1
generation_low (Mode region before ∷ rs) form = generation_low rs form.1

pub hold_no_instance : (o : Option Files) → IfSome o (λ files. (rs : List InstanceRecord) → IsInstance (files INSTANCE) rs → ⊥) → IfSome o HoldNoSite
hold_no_instance o none = weaker_told o (λ files. (rs : List InstanceRecord) → IsInstance (files INSTANCE) rs → ⊥) HoldNoSite none (λ files no s held some few fits. no s.instance held.instance)

-- records that files hold are those of each region
have_all : (files : Files) (s : Records) (n g : ℕ) → length (regions s.instance) ≡ n → generation s.instance ≡ g → AreRecords files s → (began : ℕ → ℕ) × HaveJournals n g began s.journal files
have_all files s n g count same held = (λ r. (pick r).0, λ r there. (pick r).1 there)
  where
    pick : (r : ℕ) → (k : ℕ) × (r < n → IsJournal files r g k (s.journal r))
    pick r = elim (cases_lt r n) [
      | inl there ↦ let found = held.journals r (omega (arith, there, count)) in (found.0, λ _. subst (λ (k : ℕ). IsJournal files r k found.0 (s.journal r)) same found.1)
      | inr past ↦ (0, λ there. absurd (omega (arith, past, there)))
    ]

module _ (o : Option Files) (rs : List InstanceRecord) (reads : IfSome o (λ files. IsInstance (files INSTANCE) rs)) where
  pub hold_no_directory : IsDirectory rs None → IfSome o HoldNoSite
  hold_no_directory none = weaker_told o (λ files. IsInstance (files INSTANCE) rs) HoldNoSite reads
      (λ files is s held some few fits. subst (λ (k : List InstanceRecord). IsDirectory k None) (instance_one (files INSTANCE) rs s.instance is held.instance) none (some, few, fits))

  pub hold_no_journals : (n g : ℕ) → n ≡ length (regions rs) → g ≡ generation rs → IfSome o (λ files. (began : ℕ → ℕ) (journal : ℕ → List Placed) → HaveJournals n g began journal files → ⊥) → IfSome o HoldNoSite
  hold_no_journals n g many newest none =
      both_weak o (λ files. IsInstance (files INSTANCE) rs) (λ files. (began : ℕ → ℕ) (journal : ℕ → List Placed) → HaveJournals n g began journal files → ⊥) HoldNoSite reads none
      (λ files is no s held some few fits.
      let one = instance_one (files INSTANCE) s.instance rs held.instance is in
      let count : length (regions s.instance) ≡ n = ap (λ (k : List InstanceRecord). length (regions k)) one ∙ sym many in
      let same : generation s.instance ≡ g = ap generation one ∙ sym newest in
      let have = have_all files s n g count same held in
      no have.0 s.journal have.1)

-- the records that were found, together
pub are_held : (o : Option Files) (rs : List InstanceRecord) (lowest : ℕ) (began : List ℕ) (signs : List (List PlacedSign)) (index : EntryIndex) (n g : ℕ) → n ≡ length (regions rs) → g ≡ generation rs
    → IfSome o (λ files. IsInstance (files INSTANCE) rs) → IfSome o (λ files. (journal : ℕ → List Placed) × HaveFound files rs lowest n g signs began index journal)
    → IfSome o (λ files. (u : Records) × (seq : Sequence) × AreFound files rs lowest signs index u seq)
are_held o rs lowest began signs index n g many newest is have =
    both_weak o (λ files. IsInstance (files INSTANCE) rs) (λ files. (journal : ℕ → List Placed) × HaveFound files rs lowest n g signs began index journal) (λ files. (u : Records) × (seq : Sequence) × AreFound files rs lowest signs index u seq) is have
    (λ files here there. (record { instance = rs; journal = there.0 }, there.1.seq, are_found files rs lowest n g signs began index there.0 many newest here there.1))
