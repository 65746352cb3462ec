-- An index of so many first entries of another.
use Rattle.std.proofs.Common.{◌≡◌, ℕ, ◌*◌, ◌≤◌, List, length, take, sym, ◌∙◌, ap, arith}
use Rattle.std.proofs.Math.Nat.{mul-le-mul_left}
use Rattle.std.proofs.lemmas.List.{length-take-le}
use Rattle.entry_index.specs.Among.{IsIndexOf}
use Rattle.entry_index.specs.Found.{IsWhole, entry_count}
use Rattle.entry_index.specs.Parts.{InJournals}
use Rattle.entry_index.specs.declared.index.EntryIndex.{EntryIndex}
use Rattle.entry_index.proofs.AmongLaws.{counted, whole_rows}
use Rattle.entry_index.proofs.IndexLaws.{first_rows}
use Rattle.global_defs.specs.Entry.{Reign, Sequence}
use Rattle.journal_defs.specs.Sequence.{Placed}
use Rattle.mupip_rollback.specs.Preparing.{AreFirst}

module _ (t : ℕ) (all first : EntryIndex) (are : AreFirst t all first) where
  module _ (some : 1 ≤ all.regions) (whole : IsWhole all) (most : t ≤ entry_count all) where
    rows : length first.places.items ≡ first.regions * t
    rows =
        let fits : all.regions * t ≤ all.regions * entry_count all = mul-le-mul_left {m = t} {n = entry_count all} all.regions most in
        ap length are.places ∙ length-take-le (all.regions * t) all.places.items (omega (arith, fits, whole)) ∙ ap (λ (k : ℕ). k * t) (sym are.regions)

    some_place : 1 ≤ first.regions
    some_place = let same = are.regions in omega (arith, some, same)

    -- so many they are
    pub first_count : entry_count first ≡ t
    first_count = counted first t some_place rows

    pub first_whole : IsWhole first
    first_whole = whole_rows first t some_place rows

  -- where all stand among these records the first do
  pub first_index : (journal : ℕ → List Placed) (reigns : List Reign) (seq : Sequence) → IsIndexOf journal reigns all seq → IsIndexOf journal reigns first (take t seq)
  first_index journal reigns seq is = first_rows (InJournals journal) reigns all first seq t are.regions are.places is
