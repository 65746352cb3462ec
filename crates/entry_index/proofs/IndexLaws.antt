-- What a crate above may cite: indexes with rows fewer and with a row more, and over other files.
use Rattle.std.proofs.Common.{◌≡◌, ◌⊎◌, inl, inr, ℕ, zero, suc, ◌+◌, ◌-◌, ◌*◌, ◌≤◌, ◌<◌, List, [], ◌∷◌, ◌++◌, length, take, drop, get_or, slice_get, Option, Some, None, refl, sym, ◌∙◌, ap, subst, arith, length-append}
use Rattle.std.proofs.Math.Nat.{mul-suc, mul_comm, mul-le-mul_left}
use Rattle.std.proofs.lemmas.Bool.{cases_lt}
use Rattle.std.proofs.lemmas.List.{length-take, length-take-le, length-drop, drop-take, take_all, get_or-take, get_or-append_right}
use Rattle.std.proofs.lemmas.Nat.{mul-add-lt}
use Rattle.std.proofs.Math.ListN.{get_or-append}
use Rattle.std.specs.Int.{from_be_bytes, w32}
use Rattle.global_defs.specs.Entry.{Reign, Entry, Sequence}
use Rattle.global_defs.specs.Prefix.{stamp_at}
use Rattle.journal_defs.specs.Journal.{JournalRecord, Tcom, Part}
use Rattle.journal_defs.specs.Sequence.{entry_with}
use Rattle.entry_index.specs.Places.{StandsAt}
use Rattle.entry_index.specs.declared.place.PartPlace.{PartPlace}
use Rattle.entry_index.specs.declared.index.EntryIndex.{EntryIndex}
use Rattle.entry_index.specs.Parts.{NOWHERE, IsPartAt, AreParts}
use Rattle.entry_index.specs.Indexes.{place_of, IsEntryAt, Indexes}
use Rattle.entry_index.proofs.Stands.{five_on}

got_first : (n m : ℕ) (seq : Sequence) (e : Entry) → slice_get (take n seq) m ≡ Some e → (m < n) × (m < length seq) × (slice_get seq m ≡ Some e)
got_first zero m seq e h = cc
got_first (suc n) m [] e h = cc
got_first (suc n) zero (x ∷ seq) e h = (omega arith, omega arith, h)
got_first (suc n) (suc m) (x ∷ seq) e h = let (low, within, is) = got_first n m seq e h in (omega (arith, low), omega (arith, within), is)

got_more : (m : ℕ) (seq : Sequence) (x e : Entry) → slice_get (seq ++ x ∷ []) m ≡ Some e → ((m < length seq) × (slice_get seq m ≡ Some e)) ⊎ ((m ≡ length seq) × (x ≡ e))
got_more zero [] x e h = inr (refl, cc)
got_more (suc m) [] x e h = cc
got_more zero (y ∷ seq) x e h = inl (omega arith, h)
got_more (suc m) (y ∷ seq) x e h = elim (got_more m seq x e h) [
  | inl before ↦ inl (omega (arith, before.0), before.1)
  | inr last ↦ inr (ap suc last.0, last.1)
]

-- a place of a row that is there
pub in_rows : (k n r rows : ℕ) → n < rows → r < k → k * n + r < k * rows
in_rows k n r rows low within = omega (arith, mul-add-lt n k r rows low within, mul_comm n k)

-- an entry at the same places
same_places : (stands : ℕ → ℕ → ℕ → JournalRecord → Type 0) (reigns : List Reign) (index made : EntryIndex) (n : ℕ) (e : Entry) → made.regions ≡ index.regions → ((r : ℕ) → r < index.regions → place_of made n r ≡ place_of index n r)
    → IsEntryAt stands reigns index n e → IsEntryAt stands reigns made n e
same_places stands reigns index made n e regions same at = record {
  part = at.part;
  places = λ r low. let there : r < index.regions = omega (arith, low, regions) in subst (λ (p : PartPlace). IsPartAt stands r n p (at.part r)) (sym (same r there)) (at.places r there);
  no_more = λ r past. at.no_more r (omega (arith, past, regions));
  entry = at.entry;
}

first_length : (k n : ℕ) (places : List PartPlace) (seq : Sequence) → length places ≡ k * length seq → length (take (k * n) places) ≡ k * length (take n seq)
first_length k n places seq rows = elim (cases_lt n (length seq)) [
  | inl less ↦
      let fits : k * n ≤ k * length seq = mul-le-mul_left {m = n} {n = length seq} k (omega (arith, less)) in
      length-take-le (k * n) places (omega (arith, fits, rows)) ∙ ap (λ (j : ℕ). k * j) (sym (length-take-le n seq (omega (arith, less))))
  | inr past ↦
      let fits : k * length seq ≤ k * n = mul-le-mul_left {m = length seq} {n = n} k past in
      ap length (take_all (k * n) places (omega (arith, fits, rows))) ∙ rows ∙ ap (λ (l : Sequence). k * length l) (sym (take_all n seq past))
]

-- so many first rows
pub first_rows : (stands : ℕ → ℕ → ℕ → JournalRecord → Type 0) (reigns : List Reign) (index made : EntryIndex) (seq : Sequence) (n : ℕ) → made.regions ≡ index.regions → made.places.items ≡ take (index.regions * n) index.places.items
    → Indexes stands reigns index seq → Indexes stands reigns made (take n seq)
first_rows stands reigns index made seq n regions places is = record {
  rows = ap length places ∙ first_length index.regions n index.places.items seq is.rows ∙ ap (λ (k : ℕ). k * length (take n seq)) (sym regions);
  each = λ m e h.
      let (low, within, there) = got_first n m seq e h in
      same_places stands reigns index made (suc m) e regions (λ r less.
      let number : suc m - 1 ≡ m = omega arith in
      let inside : index.regions * (suc m - 1) + r < index.regions * n = subst (λ (j : ℕ). index.regions * j + r < index.regions * n) (sym number) (in_rows index.regions m r n low less) in
      ap (λ (k : ℕ). get_or made.places.items (k * (suc m - 1) + r) NOWHERE) regions
      ∙ ap (λ (l : List PartPlace). get_or l (index.regions * (suc m - 1) + r) NOWHERE) places
      ∙ get_or-take (index.regions * n) index.places.items (index.regions * (suc m - 1) + r) NOWHERE inside)
      (is.each m e there);
}

-- the last row of a longer index
pub last_place : (index made : EntryIndex) (row : List PartPlace) (rows r : ℕ) → made.regions ≡ index.regions → made.places.items ≡ index.places.items ++ row → length index.places.items ≡ index.regions * rows
    → place_of made (suc rows) r ≡ get_or row r NOWHERE
last_place index made row rows r regions places many =
    let number : suc rows - 1 ≡ rows = omega arith in
    ap (λ (k : ℕ). get_or made.places.items (k * (suc rows - 1) + r) NOWHERE) regions
    ∙ ap (λ (j : ℕ). get_or made.places.items (index.regions * j + r) NOWHERE) number
    ∙ ap (λ (l : List PartPlace). get_or l (index.regions * rows + r) NOWHERE) places
    ∙ get_or-append_right index.places.items row (index.regions * rows) (index.regions * rows + r) NOWHERE many (omega arith)
    ∙ ap (λ (j : ℕ). get_or row j NOWHERE) (omega arith)

-- a row more, whose places have the parts of this entry
pub row_more : (stands : ℕ → ℕ → ℕ → JournalRecord → Type 0) (reigns : List Reign) (index made : EntryIndex) (seq : Sequence) (row : List PartPlace) (part : ℕ → Option Part) (e : Entry) → made.regions ≡ index.regions
    → made.places.items ≡ index.places.items ++ row → length row ≡ index.regions → AreParts stands (suc (length seq)) row part → entry_with part (stamp_at (suc (length seq)) reigns) ≡ Some e
    → Indexes stands reigns index seq → Indexes stands reigns made (seq ++ e ∷ [])
row_more stands reigns index made seq row part e regions places wide parts entry is = record {
  rows =
      let more : length (seq ++ e ∷ []) ≡ suc (length seq) = omega (arith, length-append seq (e ∷ [])) in
      let sum : length made.places.items ≡ index.regions * suc (length seq) =
      omega (arith, ap length places, length-append index.places.items row, is.rows, wide, mul-suc index.regions (length seq)) in
      sum ∙ ap (λ (k : ℕ). k * suc (length seq)) (sym regions) ∙ ap (λ (k : ℕ). made.regions * k) (sym more);
  each = λ m x h. elim (got_more m seq e x h) [
    | inl before ↦ same_places stands reigns index made (suc m) x regions (λ r low.
        let number : suc m - 1 ≡ m = omega arith in
        let inside : index.regions * (suc m - 1) + r < length index.places.items =
        subst (λ (j : ℕ). index.regions * j + r < length index.places.items) (sym number) (omega (arith, in_rows index.regions m r (length seq) before.0 low, is.rows)) in
        ap (λ (k : ℕ). get_or made.places.items (k * (suc m - 1) + r) NOWHERE) regions
        ∙ ap (λ (l : List PartPlace). get_or l (index.regions * (suc m - 1) + r) NOWHERE) places
        ∙ get_or-append index.places.items row NOWHERE (index.regions * (suc m - 1) + r) inside)
        (is.each m x before.1)
    | inr last ↦ subst (λ (y : Entry). IsEntryAt stands reigns made (suc m) y) last.1 (subst (λ (j : ℕ). IsEntryAt stands reigns made (suc j) e) (sym last.0) (record {
      part = part;
      places = λ r low. subst (λ (p : PartPlace). IsPartAt stands r (suc (length seq)) p (part r)) (sym (last_place index made row (length seq) r regions places is.rows)) (parts.each r (omega (arith, low, regions, wide)));
      no_more = λ r past. parts.no_more r (omega (arith, past, regions, wide));
      entry = entry;
    }))
  ];
}

-- what stands at a place of the index in one way stands there in another
pub moved : (old new : ℕ → ℕ → ℕ → JournalRecord → Type 0) (r n : ℕ) (p : PartPlace) (x : Option Part) → ((y : JournalRecord) → old r p.generation p.offset y → new r p.generation p.offset y) → IsPartAt old r n p x → IsPartAt new r n p x
moved old new r n p None stays is = is
moved old new r n p (Some y) stays is = (is.0, is.1, is.2, stays (Tcom y) is.3)

pub elsewhere : (old new : ℕ → ℕ → ℕ → JournalRecord → Type 0) (reigns : List Reign) (index : EntryIndex) (seq : Sequence)
    → ((n r : ℕ) (x : JournalRecord) → r < index.regions → old r (place_of index n r).generation (place_of index n r).offset x → new r (place_of index n r).generation (place_of index n r).offset x)
    → Indexes old reigns index seq → Indexes new reigns index seq
elsewhere old new reigns index seq stays is = record {
  rows = is.rows;
  each = λ m e h.
      let at = is.each m e h in
      record {
        part = at.part;
        places = λ r low. moved old new r (suc m) (place_of index (suc m) r) (at.part r) (λ y stands. stays (suc m) r y low stands) (at.places r low);
        no_more = at.no_more;
        entry = at.entry;
      };
}

room : (n m : ℕ) (xs : List ℕ) → length (take n (drop m xs)) ≡ n → 1 ≤ n → m + n ≤ length xs
room n m xs long some = omega (arith, long, some, length-take n (drop m xs), length-drop m xs)

-- what stands at a place stands there where these bytes are the same
pub same_bytes : (old new : List ℕ) (at : ℕ) (x : JournalRecord) → ((k : ℕ) → at + 1 + k ≤ length old → take k (drop (at + 1) new) ≡ take k (drop (at + 1) old)) → StandsAt old at x → StandsAt new at x
same_bytes old new at x same is =
    let long : length (take (length is.body) (drop (at + 5) old)) ≡ length is.body = ap length is.there in
    let inside : at + 5 + length is.body ≤ length old = room (length is.body) (at + 5) old long is.size.not_empty in
    record {
      body = is.body;
      spelled = is.spelled;
      size = is.size;
      length_is = ap (λ (l : List ℕ). from_be_bytes w32 l) (same 4 (omega (arith, inside))) ∙ is.length_is;
      there = behind_head new ∙ ap (drop 4) (same (4 + length is.body) (omega (arith, inside))) ∙ sym (behind_head old) ∙ is.there;
    }
  where
    behind_head : (l : List ℕ) → take (length is.body) (drop (at + 5) l) ≡ drop 4 (take (4 + length is.body) (drop (at + 1) l))
    behind_head l = ap (λ (x : List ℕ). take (length is.body) x) (sym (five_on l at)) ∙ sym (drop-take 4 (length is.body) (drop (at + 1) l))
