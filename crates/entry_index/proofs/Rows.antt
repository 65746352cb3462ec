-- Rows of an index, and the entries there.
use Rattle.std.proofs.Common.{◌≡◌, ◌⊎◌, inl, inr, ℕ, suc, ◌+◌, ◌-◌, ◌*◌, ◌≤◌, ◌<◌, ◌^◌, min, List, [], ◌∷◌, length, take, drop, get_or, slice_get, Option, Some, None, refl, sym, ◌∙◌, ap, subst, arith}
use Rattle.std.proofs.Math.Nat.{mul-suc, mul_comm, lt_of_mul-lt-mul_left, le_of_mul-le-mul_left}
use Rattle.std.proofs.Math.Path.{fun_ext}
use Rattle.std.proofs.lemmas.List.{length-drop, length-take-le, get_or-take, get_or-drop, take_all}
use Rattle.std.proofs.lemmas.Option.{slice_get_cases, slice_get_past}
use Rattle.std.specs.Option.{option_map}
use Rattle.disk_defs.specs.Disk.{Files}
use Rattle.global_defs.specs.Entry.{Stamp, Reign, Entry, Sequence}
use Rattle.global_defs.specs.Prefix.{stamp_at}
use Rattle.gvn_model.specs.declared.entry.Transaction.{Transaction}
use Rattle.gvn_model.specs.Entries.{transaction_value}
use Rattle.journal_defs.specs.Journal.{Part}
use Rattle.journal_defs.specs.Sequence.{REGIONS, entry_among, entry_with}
use Rattle.mupip_recover.specs.Entries.{stamped}
use Rattle.entry_index.specs.declared.place.PartPlace.{PartPlace}
use Rattle.entry_index.specs.declared.index.EntryIndex.{EntryIndex}
use Rattle.entry_index.specs.Parts.{InFiles, NOWHERE, IsPartAt, AreParts}
use Rattle.entry_index.specs.Indexes.{IsEntryAt, Indexes}

-- a product with one more
pub one_more : (k n : ℕ) → 1 ≤ n → k * n ≡ k * (n - 1) + k
one_more k n first =
    let is : n ≡ suc (n - 1) = omega (arith, first) in
    ap (λ (m : ℕ). k * m) is ∙ mul-suc k (n - 1)

-- places of rows with one more
pub rows_more : (k rows : ℕ) → k * rows + k ≡ k * (rows + 1)
rows_more k rows =
    let is : suc rows ≡ rows + 1 = omega arith in
    sym (mul-suc k rows) ∙ ap (λ (m : ℕ). k * m) is

-- the row of an entry, where rows have k places
abbrev pub row_of : {X : Type 0} → ℕ → ℕ → List X → List X
row_of k n xs = take k (drop (k * (n - 1)) xs)

pub row-length : {X : Type 0} (k n : ℕ) (xs : List X) → 1 ≤ n → k * n ≤ length xs → length (row_of k n xs) ≡ k
row-length k n xs first fits = length-take-le k (drop (k * (n - 1)) xs) (omega (arith, length-drop (k * (n - 1)) xs, one_more k n first, fits))

-- a row by where it ends
pub row_is : {X : Type 0} (k n end : ℕ) (xs : List X) → 1 ≤ n → end ≡ n * k → take k (drop (end - k) xs) ≡ row_of k n xs
row_is k n end xs first is =
    let at : end - k ≡ k * (n - 1) = omega (arith, is, mul_comm n k, one_more k n first) in
    ap (λ m. take k (drop m xs)) at

-- so many first rows, where their end is inside
pub kept_rows : {X : Type 0} (k n kept : ℕ) (xs : List X) → kept ≡ min (n * k) (2 ^ 64 - 1) → length xs < 2 ^ 64 → kept < length xs → take kept xs ≡ take (k * n) xs
kept_rows k n kept xs is long inside =
    let same : kept ≡ k * n = omega (arith, is, long, inside, mul_comm n k) in
    ap (λ m. take m xs) same

pub all_kept : {X : Type 0} (k n kept : ℕ) (xs : List X) → kept ≡ min (n * k) (2 ^ 64 - 1) → length xs ≤ kept → xs ≡ take (k * n) xs
all_kept k n kept xs is past = sym (take_all (k * n) xs (omega (arith, is, past, mul_comm n k)))

row-get : {X : Type 0} (k n r : ℕ) (xs : List X) (d : X) → r < k → get_or (row_of k n xs) r d ≡ get_or xs (k * (n - 1) + r) d
row-get k n r xs d low = get_or-take k (drop (k * (n - 1)) xs) r d low ∙ get_or-drop (k * (n - 1)) xs r d

-- in this row stand the parts that lead to what is the entry
pub record IsIn (files : Files) (reigns : List Reign) (row : List PartPlace) (n : ℕ) (o : Option Entry) : Type 0 where
  pub part : ℕ → Option Part
  pub parts : AreParts (InFiles files) n row part
  pub entry : entry_with part (stamp_at n reigns) ≡ o
  pub e : Entry
  pub some : o ≡ Some e

module _ (files : Files) (reigns : List Reign) (index : EntryIndex) (seq : Sequence) (n : ℕ) (first : 1 ≤ n) (is : Indexes (InFiles files) reigns index seq) where
  in_row : (e : Entry) → IsEntryAt (InFiles files) reigns index n e → index.regions * n ≤ length index.places.items → slice_get seq (n - 1) ≡ Some e
      → IsIn files reigns (row_of index.regions n index.places.items) n (slice_get seq (n - 1))
  in_row e at fits some =
      let k = index.regions in
      let long : length (row_of k n index.places.items) ≡ k = row-length k n index.places.items first fits in
      record {
        part = at.part;
        parts = record {
          each = λ r low.
              let there : r < k = omega (arith, long, low) in
              subst (λ (p : PartPlace). IsPartAt (InFiles files) r n p (at.part r)) (sym (row-get k n r index.places.items NOWHERE there)) (at.places r there);
          no_more = λ r past. at.no_more r (omega (arith, long, past));
        };
        entry = at.entry ∙ sym some;
        e = e;
        some = some;
      }

  entry_here : 1 ≤ index.regions → index.regions * n ≤ length index.places.items → IsIn files reigns (row_of index.regions n index.places.items) n (slice_get seq (n - 1))
  entry_here some fits =
      let all : index.regions * n ≤ index.regions * length seq = omega (arith, fits, is.rows) in
      let within : n ≤ length seq = le_of_mul-le-mul_left {m = n} {n = length seq} {k = index.regions} all some in
      let number : suc (n - 1) ≡ n = omega (arith, first) in
      elim ((slice_get_cases seq (n - 1)).1) [
        | inl found ↦ in_row found.0 (subst (λ (m : ℕ). IsEntryAt (InFiles files) reigns index m found.0) number (is.each (n - 1) found.0 found.2)) fits found.2
        | inr past ↦ absurd (omega (arith, past.0, within, first))
      ]

  -- the entry of a row
  pub entry_in : (row : List PartPlace) → row ≡ row_of index.regions n index.places.items → 1 ≤ index.regions → index.regions * n ≤ length index.places.items → IsIn files reigns row n (slice_get seq (n - 1))
  entry_in row here some fits = subst (λ (l : List PartPlace). IsIn files reigns l n (slice_get seq (n - 1))) (sym here) (entry_here some fits)

nothing_with : (stamp : Option Stamp) → entry_with (λ r. None) stamp ≡ None
nothing_with None = refl
nothing_with (Some s) = refl

-- without regions there is no entry
no_entry : (files : Files) (reigns : List Reign) (index : EntryIndex) (seq : Sequence) → index.regions ≡ 0 → Indexes (InFiles files) reigns index seq → length seq ≡ 0
no_entry files reigns index [] zero is = refl
no_entry files reigns index (e ∷ es) zero is =
    let at = is.each 0 e refl in
    let none : at.part ≡ (λ r. None) = fun_ext (λ r. at.no_more r (omega (arith, zero))) in
    let gone : Some e ≡ None = sym at.entry ∙ ap (λ (p : ℕ → Option Part). entry_with p (stamp_at 1 reigns)) none ∙ nothing_with (stamp_at 1 reigns) in
    cc

-- there is no entry of a number without a row
pub past_rows : (files : Files) (reigns : List Reign) (index : EntryIndex) (seq : Sequence) (n : ℕ) → 1 ≤ n → (index.regions ≡ 0) ⊎ (length index.places.items < index.regions * n) → Indexes (InFiles files) reigns index seq
    → None ≡ slice_get seq (n - 1)
past_rows files reigns index seq n first (inl zero) is = sym (slice_get_past seq (n - 1) (omega (arith, no_entry files reigns index seq zero is)))
past_rows files reigns index seq n first (inr past) is =
    let less : length seq < n = lt_of_mul-lt-mul_left index.regions {m = length seq} {n = n} (omega (arith, past, is.rows)) in
    sym (slice_get_past seq (n - 1) (omega (arith, less, first)))

-- what is read of a row is the entry there
pub is_entry : (files : Files) (reigns : List Reign) (row : List PartPlace) (n : ℕ) (o : Option Entry) (s : Stamp) (found : Option Transaction) → Some s ≡ stamp_at n reigns
    → ((part : ℕ → Option Part) → AreParts (InFiles files) n row part → (stamp : Stamp) → entry_among part stamp REGIONS ≡ option_map (stamped stamp) found)
    → IsIn files reigns row n o → option_map (stamped s) found ≡ o
is_entry files reigns row n o s found is all at = sym (all at.part at.parts s) ∙ ap (entry_with at.part) is ∙ at.entry

-- before all reigns there is none
pub no_stamp : (files : Files) (reigns : List Reign) (row : List PartPlace) (n : ℕ) (o : Option Entry) → None ≡ stamp_at n reigns → IsIn files reigns row n o → None ≡ o
no_stamp files reigns row n o is at = ap (entry_with at.part) is ∙ at.entry

pub some_there : (files : Files) (reigns : List Reign) (row : List PartPlace) (n : ℕ) (o : Option Entry) → None ≡ o → IsIn files reigns row n o → ⊥
some_there files reigns row n o none at = let gone : None ≡ Some at.e = none ∙ at.some in cc

of_stamped : (s : Stamp) (found : Option Transaction) → option_map transaction_value found ≡ option_map (λ (e : Entry). e.transaction) (option_map (stamped s) found)
of_stamped s None = refl
of_stamped s (Some t) = refl

does_by : (files : Files) (reigns : List Reign) (row : List PartPlace) (n : ℕ) (o : Option Entry) (found : Option Transaction) (st : Option Stamp) → st ≡ stamp_at n reigns
    → ((part : ℕ → Option Part) → AreParts (InFiles files) n row part → (stamp : Stamp) → entry_among part stamp REGIONS ≡ option_map (stamped stamp) found)
    → IsIn files reigns row n o → option_map transaction_value found ≡ option_map (λ (e : Entry). e.transaction) o
does_by files reigns row n o found None is all at = absurd (some_there files reigns row n o (no_stamp files reigns row n o is at) at)
does_by files reigns row n o found (Some s) is all at = of_stamped s found ∙ ap (option_map (λ (e : Entry). e.transaction)) (is_entry files reigns row n o s found is all at)

-- what is read of a row is what the entry there does, whatever its stamp
pub does_so : (files : Files) (reigns : List Reign) (row : List PartPlace) (n : ℕ) (o : Option Entry) (found : Option Transaction)
    → ((part : ℕ → Option Part) → AreParts (InFiles files) n row part → (stamp : Stamp) → entry_among part stamp REGIONS ≡ option_map (stamped stamp) found)
    → IsIn files reigns row n o → option_map transaction_value found ≡ option_map (λ (e : Entry). e.transaction) o
does_so files reigns row n o found all at = does_by files reigns row n o found (stamp_at n reigns) refl all at

-- where nothing is read of a row there is no entry
pub none_so : (files : Files) (reigns : List Reign) (row : List PartPlace) (n : ℕ) (o : Option Entry) (found : Option Transaction) → found ≡ None
    → ((part : ℕ → Option Part) → AreParts (InFiles files) n row part → (stamp : Stamp) → entry_among part stamp REGIONS ≡ option_map (stamped stamp) found)
    → IsIn files reigns row n o → ⊥
none_so files reigns row n o found none all at =
    let gone : None ≡ Some at.e.transaction = ap (option_map transaction_value) (sym none) ∙ does_so files reigns row n o found all at ∙ ap (option_map (λ (e : Entry). e.transaction)) at.some in
    cc
