-- Indexes whose places are those that signs tell, with a row more.
use Rattle.std.proofs.Common.{◌≡◌, inl, inr, ℕ, suc, ◌+◌, ◌-◌, ◌*◌, ◌≤◌, ◌<◌, List, ◌++◌, length, get_or, sym, ◌∙◌, ap, subst, arith, length-append}
use Rattle.std.proofs.Math.Nat.{mul-suc, mul-le-mul_left}
use Rattle.std.proofs.lemmas.Bool.{cases_lt}
use Rattle.std.proofs.Math.ListN.{get_or-append}
use Rattle.journal_defs.specs.Instance.{InstanceRecord}
use Rattle.entry_index.specs.declared.placed.PlacedSign.{PlacedSign}
use Rattle.entry_index.specs.declared.place.PartPlace.{PartPlace}
use Rattle.entry_index.specs.declared.index.EntryIndex.{EntryIndex}
use Rattle.entry_index.specs.Parts.{NOWHERE}
use Rattle.entry_index.specs.Signs.{last_sign, signs_of}
use Rattle.entry_index.specs.Completing.{place_told}
use Rattle.entry_index.specs.Indexes.{place_of}
use Rattle.entry_index.specs.Among.{ArePlaced}
use Rattle.entry_index.proofs.IndexLaws.{in_rows, last_place}

pub none_placed : (instance : List InstanceRecord) (signs : List (List PlacedSign)) (index : EntryIndex) → length index.places.items ≡ 0 → ArePlaced instance signs index
none_placed instance signs index none = record {
  each = λ n r low fits. absurd (let some : index.regions * 1 ≤ index.regions * (n + 1) = mul-le-mul_left {m = 1} {n = n + 1} index.regions (omega arith) in omega (arith, low, fits, none, some));
}

-- the same places
pub placed_same : (instance : List InstanceRecord) (signs : List (List PlacedSign)) (index made : EntryIndex) → made.regions ≡ index.regions → made.places.items ≡ index.places.items → ArePlaced instance signs index → ArePlaced instance signs made
placed_same instance signs index made regions places placed = record {
  each = λ n r low fits.
      ap (λ (k : ℕ). get_or made.places.items (k * (suc n - 1) + r) NOWHERE) regions
      ∙ ap (λ (l : List PartPlace). get_or l (index.regions * (suc n - 1) + r) NOWHERE) places
      ∙ placed.each n r (omega (arith, low, regions))
      (subst (λ (k : ℕ). k * (n + 1) ≤ length index.places.items) regions (omega (arith, fits, ap length places)));
}

pub placed_more : (instance : List InstanceRecord) (signs : List (List PlacedSign)) (index made : EntryIndex) (row : List PartPlace) (rows : ℕ) → made.regions ≡ index.regions → made.places.items ≡ index.places.items ++ row
    → length row ≡ index.regions → length index.places.items ≡ index.regions * rows → ((r : ℕ) → r < index.regions → get_or row r NOWHERE ≡ place_told (last_sign instance (rows + 1) (signs_of signs r)))
    → ArePlaced instance signs index → ArePlaced instance signs made
placed_more instance signs index made row rows regions places wide many told placed = record {
  each = λ n r low fits.
      let within : r < index.regions = omega (arith, low, regions) in
      elim (cases_lt n rows) [
        | inl older ↦
            let number : suc n - 1 ≡ n = omega arith in
            let inside : index.regions * (suc n - 1) + r < length index.places.items =
            subst (λ (j : ℕ). index.regions * j + r < length index.places.items) (sym number) (omega (arith, in_rows index.regions n r rows older within, many)) in
            let whole : index.regions * (n + 1) ≤ index.regions * rows = mul-le-mul_left {m = n + 1} {n = rows} index.regions (omega (arith, older)) in
            ap (λ (k : ℕ). get_or made.places.items (k * (suc n - 1) + r) NOWHERE) regions
            ∙ ap (λ (l : List PartPlace). get_or l (index.regions * (suc n - 1) + r) NOWHERE) places
            ∙ get_or-append index.places.items row NOWHERE (index.regions * (suc n - 1) + r) inside
            ∙ placed.each n r within (omega (arith, whole, many))
        | inr newest ↦
            let last : n ≡ rows = newest_is n (omega (arith, within)) newest (fits_rows n fits) in
            ap (λ (k : ℕ). place_of made (suc k) r) last
            ∙ last_place index made row rows r regions places many
            ∙ told r within
            ∙ ap (λ (k : ℕ). place_told (last_sign instance (k + 1) (signs_of signs r))) (sym last)
      ];
}
  where
    fits_rows : (n : ℕ) → made.regions * (n + 1) ≤ length made.places.items → index.regions * (n + 1) ≤ index.regions * suc rows
    fits_rows n fits =
        let all : length made.places.items ≡ index.regions * suc rows = omega (arith, ap length places, length-append index.places.items row, many, wide, mul-suc index.regions rows) in
        subst (λ (k : ℕ). k * (n + 1) ≤ index.regions * suc rows) regions (omega (arith, fits, all))

    newest_is : (n : ℕ) → 1 ≤ index.regions → rows ≤ n → index.regions * (n + 1) ≤ index.regions * suc rows → n ≡ rows
    newest_is n some low fits = elim (cases_lt rows n) [
      | inl more ↦
          let longer : index.regions * suc (suc rows) ≤ index.regions * (n + 1) = mul-le-mul_left {m = suc (suc rows)} {n = n + 1} index.regions (omega (arith, more)) in
          absurd (omega (arith, longer, fits, mul-suc index.regions (suc rows), some))
      | inr same ↦ omega (arith, same, low)
    ]
