-- The sequence that an index of signs leads to.
use Rattle.std.proofs.Common.{◌≡◌, ℕ, suc, ◌+◌, ◌*◌, ◌≤◌, Bool, true, false, List, [], ◌∷◌, ◌++◌, length, Option, Some, None, IsSome, refl, sym, ◌∙◌, ap, subst, arith, length-append}
use Rattle.std.proofs.lemmas.List.{take_all}
use Rattle.disk_defs.specs.Disk.{Files}
use Rattle.global_defs.specs.Entry.{Reign, Sequence}
use Rattle.global_defs.specs.Prefix.{stamp_at}
use Rattle.journal_defs.specs.Instance.{InstanceRecord}
use Rattle.journal_defs.specs.Journal.{Part}
use Rattle.journal_defs.specs.Surviving.{reigns}
use Rattle.journal_defs.specs.Sequence.{Records, Placed, part_of, parts, entry, entry_with, EntriesFrom, IsSequence}
use Rattle.mupip_recover.proofs.Runs.{more_run, no_more}
use Rattle.entry_index.specs.declared.placed.PlacedSign.{PlacedSign}
use Rattle.entry_index.specs.declared.place.PartPlace.{PartPlace}
use Rattle.entry_index.specs.declared.signed_part.PartSign.{PartSign}
use Rattle.entry_index.specs.declared.index.EntryIndex.{EntryIndex}
use Rattle.entry_index.specs.Parts.{InFiles, AreParts}
use Rattle.entry_index.specs.Signs.{IsSign, last_sign, signs_of}
use Rattle.entry_index.specs.Indexes.{Indexes, AreSigns, IsNext}
use Rattle.entry_index.proofs.Complete.{some_of}
use Rattle.entry_index.proofs.Counting.{numbers_of, none_of}
use Rattle.entry_index.proofs.IndexLaws.{first_rows, row_more}
use Rattle.entry_index.proofs.Signed.{signed, none_past}

-- an index of the same places
same_index : (files : Files) (reigns : List Reign) (index made : EntryIndex) (seq : Sequence) → made.regions ≡ index.regions → made.places.items ≡ index.places.items → Indexes (InFiles files) reigns index seq → Indexes (InFiles files) reigns made seq
same_index files reigns index made seq regions places is =
    subst (λ (l : Sequence). Indexes (InFiles files) reigns made l) (take_all (length seq) seq (omega arith))
    (first_rows (InFiles files) reigns index made seq (length seq) regions (places ∙ sym (take_all (index.regions * length seq) index.places.items (omega (arith, is.rows)))) is)

-- so many first entries of these records, and the index of them
pub record IsRun (files : Files) (s : Records) (index : EntryIndex) (rows : ℕ) : Type 0 where
  pub seq : Sequence
  pub long : length seq ≡ rows
  pub each : EntriesFrom (entry s) 1 seq
  pub indexes : Indexes (InFiles files) (reigns s.instance) index seq

-- one entry more
pub run_more : (files : Files) (s : Records) (index made : EntryIndex) (rows : ℕ) (row : List PartPlace) → made.regions ≡ index.regions → made.places.items ≡ index.places.items ++ row → length row ≡ index.regions
    → AreParts (InFiles files) (suc rows) row (parts s (suc rows)) → IsSome (entry s (suc rows)) → IsRun files s index rows → IsRun files s made (suc rows)
run_more files s index made rows row regions places wide at some run =
    let (e, is) = some_of (entry s (suc rows)) some in
    record {
      seq = run.seq ++ e ∷ [];
      long = length-append run.seq (e ∷ []) ∙ omega (arith, run.long);
      each = more_run (entry s) 1 (suc rows) run.seq e (omega (arith, run.long)) run.each is;
      indexes = row_more (InFiles files) (reigns s.instance) index made run.seq row (parts s (suc rows)) e regions places wide
          (subst (λ (k : ℕ). AreParts (InFiles files) (suc k) row (parts s (suc rows))) (sym run.long) at)
          (subst (λ (k : ℕ). entry_with (parts s (suc rows)) (stamp_at (suc k) (reigns s.instance)) ≡ Some e) (sym run.long) is) run.indexes;
    }

-- a run that has ended is the sequence
ended : (files : Files) (s : Records) (index : EntryIndex) (rows : ℕ) → entry s (suc rows) ≡ None → IsRun files s index rows → (seq : Sequence) × IsSequence s seq × Indexes (InFiles files) (reigns s.instance) index seq
ended files s index rows none run = (run.seq, record { each = run.each; ended = subst (λ (k : ℕ). entry s (suc k) ≡ None) (sym run.long) none }, run.indexes)

-- so is one of as many entries as there are parts
pub whole_run : (files : Files) (s : Records) (index : EntryIndex) (rows k : ℕ) → ((r : ℕ) → k ≤ r → s.journal r ≡ []) → rows ≡ length (numbers_of s.journal k) → IsRun files s index rows
    → (seq : Sequence) × IsSequence s seq × Indexes (InFiles files) (reigns s.instance) index seq
whole_run files s index rows k past many run =
    let none : entry s (suc (length run.seq)) ≡ None = no_more s (numbers_of s.journal k) (λ n r h. none_of s.instance s.journal k n r past h) run.seq run.each (omega (arith, run.long, many)) (entry s (suc (length run.seq))) refl in
    ended files s index rows (subst (λ (n : ℕ). entry s (suc n) ≡ None) run.long none) run

-- before all entries
pub no_rows : (files : Files) (s : Records) (index : EntryIndex) → length index.places.items ≡ 0 → IsRun files s index 0
no_rows files s index none = record {
  seq = [];
  long = refl;
  each = tt;
  indexes = record {
    rows = omega (arith, none);
    each = λ n e h. cc;
  };
}

module _ (files : Files) (s : Records) (index made : EntryIndex) (place : ℕ) (run : IsRun files s index place) where
  -- the next row
  pub row_added : made.regions ≡ index.regions → length made.places.items ≡ length index.places.items + index.regions
      → IsNext files (reigns s.instance) (place + 1) (parts s (place + 1)) true index.places.items made.places.items → IsRun files s made (place + 1)
  row_added regions many (row, places, at, some) =
      let wide : length row ≡ index.regions = omega (arith, many, ap length places, length-append index.places.items row) in
      let next : suc place ≡ place + 1 = omega arith in
      let back : place + 1 ≡ suc place = omega arith in
      subst (IsRun files s made) next (run_more files s index made place row regions places wide
      (subst (λ (n : ℕ). AreParts (InFiles files) n row (parts s n)) back at)
      (subst (λ (n : ℕ). IsSome (entry s n)) back some) run)

  -- no row more
  pub run_ended : made.regions ≡ index.regions → IsNext files (reigns s.instance) (place + 1) (parts s (place + 1)) false index.places.items made.places.items
      → (seq : Sequence) × IsSequence s seq × Indexes (InFiles files) (reigns s.instance) made seq
  run_ended regions (same, none) =
      let back : place + 1 ≡ suc place = omega arith in
      let (seq, is, indexes) = ended files s index place (subst (λ (n : ℕ). entry s n ≡ None) back none) run in
      (seq, is, same_index files (reigns s.instance) index made seq regions same indexes)

-- whether there is a row more, as the signs of all regions tell
pub next_by_signs : (files : Files) (signs : List (List PlacedSign)) (records : ℕ → List Placed) (instance : List InstanceRecord) (rs : List Reign) (regions place : ℕ) (sign : ℕ → Option PartSign) (more : Bool) (old new : List PartPlace)
    → AreSigns files signs records → rs ≡ reigns instance → regions ≡ length signs → ((r : ℕ) → sign r ≡ last_sign instance (place + 1) (signs_of signs r))
    → ((part : ℕ → Option Part) → ((r : ℕ) → IsSign files r (place + 1) (sign r) (part r)) → ((r : ℕ) → regions ≤ r → part r ≡ None) → IsNext files rs (place + 1) part more old new)
    → IsNext files (reigns instance) (place + 1) (parts (record { instance = instance; journal = records }) (place + 1)) more old new
next_by_signs files signs records instance rs regions place sign more old new are ruled wide each next =
    subst (λ (l : List Reign). IsNext files l (place + 1) (parts (record { instance = instance; journal = records }) (place + 1)) more old new) ruled
    (next (λ r. part_of instance (place + 1) (records r)) (signed files signs records instance (place + 1) sign are each) (λ r past. none_past files signs records instance (place + 1) are r (omega (arith, past, wide))))
