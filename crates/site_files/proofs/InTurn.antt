-- Journals that are read one region after the other, and the index by all their signs.
use Rattle.std.proofs.Common.{◌≡◌, ℕ, List, length, map, Option, IfSome, IfOk, Result, Ok, Err, arith}
use Rattle.disk_defs.specs.Disk.{Files}
use Rattle.disk_defs.proofs.Told.{both_weak, weaker_told}
use Rattle.global_defs.specs.Entry.{Sequence}
use Rattle.journal_defs.specs.Instance.{InstanceRecord}
use Rattle.journal_defs.specs.Surviving.{reigns}
use Rattle.journal_defs.specs.Sequence.{Placed, IsSequence}
use Rattle.entry_index.specs.declared.index.EntryIndex.{EntryIndex}
use Rattle.entry_index.specs.declared.placed.PlacedSign.{PlacedSign}
use Rattle.entry_index.specs.declared.side_by_side.FoundJournals.{FoundJournals}
use Rattle.entry_index.specs.Among.{ArePlaced}
use Rattle.entry_index.specs.Found.{HaveFound}
use Rattle.entry_index.specs.Indexes.{AreSigns, Indexes}
use Rattle.entry_index.specs.Parts.{InFiles}
use Rattle.entry_index.proofs.AmongLaws.{index_among}
use Rattle.entry_index.proofs.Thin.{signs_kept}
use Rattle.site_files.specs.Loading.{last_of}
use Rattle.site_files.specs.Reading.{HaveSigns}

module _ (o : Option Files) (n g : ℕ) (began : List ℕ) (signs : List (List PlacedSign)) (have : IfSome o (HaveSigns n g (last_of began) signs)) where
  pub have_found : (rs : List InstanceRecord) (index : EntryIndex) → length signs ≡ n → index.regions ≡ length signs → ArePlaced rs signs index
      → IfSome o (λ files. (journal : ℕ → List Placed) → AreSigns files signs journal → (seq : Sequence) × IsSequence (record { instance = rs; journal = journal }) seq × Indexes (InFiles files) (reigns rs) index seq)
      → IfSome o (λ files. (lowest : ℕ) → (journal : ℕ → List Placed) × HaveFound files rs lowest n g signs began index journal)
  have_found rs index many regions placed told =
      let Told = λ (files : Files). (journal : ℕ → List Placed) → AreSigns files signs journal → (seq : Sequence) × IsSequence (record { instance = rs; journal = journal }) seq × Indexes (InFiles files) (reigns rs) index seq in
      both_weak o (HaveSigns n g (last_of began) signs) Told (λ files. (lowest : ℕ) → (journal : ℕ → List Placed) × HaveFound files rs lowest n g signs began index journal) have told
      (λ files there for lowest.
      let s = for there.journal there.are in (
        there.journal,
        record {
          journals = there.have;
          no_more = λ r past. there.are.no_more r (omega (arith, past, many));
          seq = s.0;
          sequence = s.1;
          indexed = s.2;
          among = index_among files rs signs there.journal there.are there.ordered (reigns rs) index s.0 regions placed s.2;
          kept = signs_kept files rs lowest (length s.0) signs there.journal there.are;
        },
      ))

  -- they are some journals' signs
  pub no_other : (P : Files → Type 0) → IfSome o (λ files. (journal : ℕ → List Placed) → AreSigns files signs journal → ⊥) → IfSome o P
  no_other P none = both_weak o (HaveSigns n g (last_of began) signs) (λ files. (journal : ℕ → List Placed) → AreSigns files signs journal → ⊥) P have none
      (λ files there no. absurd (no there.journal there.are))

-- what was found for any lowest target was found for one
pub found_for : {E : Type 0} (o : Option Files) (rs : List InstanceRecord) (lowest n g : ℕ) (r : Result FoundJournals E)
    → IfOk r (λ made. IfSome o (λ files. (l : ℕ) → (journal : ℕ → List Placed) × HaveFound files rs l n g (map (λ s. s.items) made.signs.items) made.last_began.items made.entries journal))
    → IfOk r (λ made. IfSome o (λ files. (journal : ℕ → List Placed) × HaveFound files rs lowest n g (map (λ s. s.items) made.signs.items) made.last_began.items made.entries journal))
found_for o rs lowest n g (Ok made) told =
    weaker_told o (λ files. (l : ℕ) → (journal : ℕ → List Placed) × HaveFound files rs l n g (map (λ s. s.items) made.signs.items) made.last_began.items made.entries journal)
    (λ files. (journal : ℕ → List Placed) × HaveFound files rs lowest n g (map (λ s. s.items) made.signs.items) made.last_began.items made.entries journal) told (λ files all. all lowest)
found_for o rs lowest n g (Err e) told = tt
