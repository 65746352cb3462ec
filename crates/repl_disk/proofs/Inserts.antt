-- A file that is put into the table.
use Rattle.std.proofs.Common.{◌≡◌, ℕ, zero, suc, ◌+◌, ◌<◌, ◌==◌, cond, List, [], ◌∷◌, length, get_or, refl, sym, ◌∙◌, ap, arith, inl, inr}
use Rattle.std.proofs.lemmas.Bool.{cases_eq}
use Rattle.std.specs.List.{insert}
use Rattle.std.proofs.lemmas.List.Sorted.{IsNonDecreasingBy-insert}
use Rattle.repl_disk.specs.Table.{Entry, entry_of, nothing, entry_in, IsAbsent, IsPlaceFor, IsKept, AreKept, all_calls, all_bytes}
use Rattle.repl_disk.specs.declared.file.MemFile.{MemFile}
use Rattle.repl_disk.proofs.Tables.{cond_yes, cond_no, none_reads}

rest_absent : (m : MemFile) (files : List MemFile) (number : ℕ) → IsAbsent (m ∷ files) number → IsAbsent files number
rest_absent m files number none k d lt = none (suc k) d (omega (arith, lt))

alone : (m : MemFile) (f : ℕ) → entry_of m ≡ nothing → entry_in (m ∷ []) f ≡ nothing
alone m f is = elim (cases_eq f m.number) [
  | inl here ↦ cond_yes f m.number (entry_of m) nothing here ∙ is
  | inr other ↦ cond_no f m.number (entry_of m) nothing other
]

pub insert_same : (files : List MemFile) (i : ℕ) (m : MemFile) → IsAbsent files m.number → entry_of m ≡ nothing → (f : ℕ) → entry_in (insert files i m) f ≡ entry_in files f
insert_same [] zero m none is f = alone m f is
insert_same [] (suc i) m none is f = alone m f is
insert_same (old ∷ files) zero m none is f = elim (cases_eq f m.number) [
  | inl here ↦ cond_yes f m.number (entry_of m) (entry_in (old ∷ files) f) here ∙ is ∙ sym (ap (entry_in (old ∷ files)) here ∙ none_reads (old ∷ files) m.number none)
  | inr other ↦ cond_no f m.number (entry_of m) (entry_in (old ∷ files) f) other
]
insert_same (old ∷ files) (suc i) m none is f = ap (λ (e : Entry). cond (f == old.number) (entry_of old) e) (insert_same files i m (rest_absent old files m.number none) is f)

pub insert_calls : (files : List MemFile) (i : ℕ) (m : MemFile) → all_calls (insert files i m) ≡ m.calls_left + all_calls files
insert_calls [] zero m = refl
insert_calls [] (suc i) m = refl
insert_calls (old ∷ files) zero m = refl
insert_calls (old ∷ files) (suc i) m = omega (arith, insert_calls files i m)

pub insert_bytes : (files : List MemFile) (i : ℕ) (m : MemFile) → all_bytes (insert files i m) ≡ m.bytes_left + all_bytes files
insert_bytes [] zero m = refl
insert_bytes [] (suc i) m = refl
insert_bytes (old ∷ files) zero m = refl
insert_bytes (old ∷ files) (suc i) m = omega (arith, insert_bytes files i m)

-- what holds of each file, in a form that goes by the list
abbrev EachKept : List MemFile → Type 0
EachKept files = (k : ℕ) (d : MemFile) → k < length files → IsKept (get_or files k d)

alone_kept : (m : MemFile) → IsKept m → EachKept (m ∷ [])
alone_kept m is zero d lt = is
alone_kept m is (suc k) d lt = absurd (omega (arith, lt))

each_insert : (files : List MemFile) (i : ℕ) (m : MemFile) → EachKept files → IsKept m → EachKept (insert files i m)
each_insert [] zero m kept is k d lt = alone_kept m is k d lt
each_insert [] (suc i) m kept is k d lt = alone_kept m is k d lt
each_insert (old ∷ files) zero m kept is zero d lt = is
each_insert (old ∷ files) zero m kept is (suc k) d lt = kept k d (omega (arith, lt))
each_insert (old ∷ files) (suc i) m kept is zero d lt = kept 0 d (omega arith)
each_insert (old ∷ files) (suc i) m kept is (suc k) d lt = each_insert files i m (λ j e le. kept (suc j) e (omega (arith, le))) is k d (omega (arith, lt))

pub insert_kept : (files : List MemFile) (i : ℕ) (m : MemFile) → AreKept files → IsKept m → IsPlaceFor files m.number i → AreKept (insert files i m)
insert_kept files i m kept is place = record {
  each = each_insert files i m kept.each is;
  rising = IsNonDecreasingBy-insert (λ (x : MemFile). x.number) files i m kept.rising place.inside (λ k d lt. omega (arith, place.below k d lt)) (λ k d le lt. omega (arith, place.above k d le lt));
}
