-- The places of one entry more.
use Rattle.std.proofs.Common.{◌≡◌, ℕ, suc, ◌+◌, ◌*◌, ◌/◌, ◌≤◌, List, length, refl, sym, ◌∙◌, ap, subst, arith, length-append}
use Rattle.std.specs.Prelude.{◌==◌, if◌then◌else◌}
use Rattle.std.proofs.lemmas.List.{take_all}
use Rattle.std.proofs.Math.Nat.{mul-suc}
use Rattle.global_defs.specs.Entry.{Reign, Sequence}
use Rattle.journal_defs.specs.Sequence.{Placed}
use Rattle.tp_commit.specs.Parts.{PartRecords}
use Rattle.region_journals.specs.declared.journals.RegionJournal.{RegionJournal}
use Rattle.entry_index.specs.declared.index.EntryIndex.{EntryIndex}
use Rattle.entry_index.specs.declared.place.PartPlace.{PartPlace}
use Rattle.entry_index.specs.Among.{IsIndexOf}
use Rattle.entry_index.specs.Found.{entry_count, IsWhole}
use Rattle.entry_index.specs.Parts.{InJournals}
use Rattle.entry_index.proofs.IndexLaws.{first_rows}
use Rattle.entry_index.proofs.AmongLaws.{counted, whole_rows}
use Rattle.site_store.specs.Committing.{AddsPlaces, IsSameIndex}

module _ (parts : PartRecords) (js : List RegionJournal) (old new : EntryIndex) (some : 1 ≤ old.regions) (whole : IsWhole old) (a : AddsPlaces parts js old new) where
  rows : length new.places.items ≡ new.regions * suc (entry_count old)
  rows =
      let all : length new.places.items ≡ old.regions * suc (entry_count old) =
      omega (arith, ap length a.places, length-append old.places.items a.row, whole, a.count, mul-suc old.regions (entry_count old)) in
      all ∙ ap (λ (n : ℕ). n * suc (entry_count old)) (sym a.regions)

  wide : 1 ≤ new.regions
  wide = subst (λ (n : ℕ). 1 ≤ n) (sym a.regions) some

  pub counts_places : entry_count new ≡ entry_count old + 1
  counts_places = let count = counted new (suc (entry_count old)) wide rows in omega (arith, count)

  pub whole_places : IsWhole new
  whole_places = whole_rows new (suc (entry_count old)) wide rows

-- an index is the same as itself
pub same_self : (index : EntryIndex) → IsSameIndex index index
same_self index = record { regions = refl; places = refl }

module _ (old new : EntryIndex) (s : IsSameIndex old new) where
  pub same_count : entry_count new ≡ entry_count old
  same_count =
      ap (λ (k : ℕ). if k == 0 then 0 else length new.places.items / k) s.regions
      ∙ ap (λ (l : List PartPlace). if old.regions == 0 then 0 else length l / old.regions) s.places

  pub same_whole : IsWhole old → IsWhole new
  same_whole whole =
      ap length s.places ∙ whole ∙ ap (λ (k : ℕ). k * entry_count old) (sym s.regions) ∙ ap (λ (n : ℕ). new.regions * n) (sym same_count)

  pub same_index : (journal : ℕ → List Placed) (rs : List Reign) (seq : Sequence) → IsIndexOf journal rs old seq → IsIndexOf journal rs new seq
  same_index journal rs seq is =
      subst (IsIndexOf journal rs new) (take_all (length seq) seq (omega arith))
      (first_rows (InJournals journal) rs old new seq (length seq) s.regions (s.places ∙ sym (take_all (old.regions * length seq) old.places.items (omega (arith, is.rows)))) is)
