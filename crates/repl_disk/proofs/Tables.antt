-- The table of files.
use Rattle.std.proofs.Common.{◌≡◌, ◌≢◌, ℕ, zero, suc, ◌+◌, ◌≤◌, ◌<◌, ◌==◌, true, false, cond, Result, Ok, Err, OnErr, List, [], ◌∷◌, length, get_or, set, refl, sym, ◌∙◌, ap, subst, arith, inl, inr}
use Rattle.std.proofs.lemmas.Bool.{cases_eq}
use Rattle.std.proofs.lemmas.List.{get_or_default, get_or-set_same, get_or-set_other, length-set}
use Rattle.std.proofs.lemmas.Bool.Decides.{nat_tests}
use Rattle.repl_disk.specs.Mem.{Mem}
use Rattle.repl_disk.specs.Table.{Entry, entry_of, nothing, entry_in, put_entry, IsFirst, IsAbsent, IsKept, AreKept, all_calls, all_bytes}
use Rattle.repl_disk.specs.declared.file.MemFile.{MemFile}

pub cond_yes : {A : Type 0} (f n : ℕ) (x y : A) → f ≡ n → cond (f == n) x y ≡ x
cond_yes f n x y is = grind (arith, nat_tests)

pub cond_no : {A : Type 0} (f n : ℕ) (x y : A) → f ≢ n → cond (f == n) x y ≡ y
cond_no f n x y ne = grind (arith, nat_tests)

rest_first : (m : MemFile) (files : List MemFile) (number i : ℕ) → IsFirst (m ∷ files) number (suc i) → IsFirst files number i
rest_first m files number i first = record {
  inside = omega (arith, first.inside);
  here = first.here;
  before = λ k d lt. first.before (suc k) d (omega (arith, lt));
}

pub first_reads : (files : List MemFile) (number i : ℕ) (d : MemFile) → IsFirst files number i → entry_in files number ≡ entry_of (get_or files i d)
first_reads [] number i d first = absurd (omega (arith, first.inside))
first_reads (m ∷ files) number zero d first = cond_yes number m.number (entry_of m) (entry_in files number) (sym (first.here m))
first_reads (m ∷ files) number (suc i) d first =
    cond_no number m.number (entry_of m) (entry_in files number) (λ is. first.before 0 m (omega arith) (sym is)) ∙ first_reads files number i d (rest_first m files number i first)

pub first_set : (files : List MemFile) (number i : ℕ) (m : MemFile) (t : Entry) → IsFirst files number i → m.number ≡ number → entry_of m ≡ t → (f : ℕ) → entry_in (set files i m) f ≡ put_entry number t (entry_in files) f
first_set [] number i m t first number_is is f = absurd (omega (arith, first.inside))
first_set (old ∷ files) number zero m t first number_is is f = elim (cases_eq f number) [
  | inl here ↦ cond_yes f m.number (entry_of m) (entry_in files f) (here ∙ sym number_is) ∙ is ∙ sym (cond_yes f number t (entry_in (old ∷ files) f) here)
  | inr other ↦ cond_no f m.number (entry_of m) (entry_in files f) (λ e. other (e ∙ number_is)) ∙ sym (cond_no f number t (entry_in (old ∷ files) f) other ∙ cond_no f old.number (entry_of old) (entry_in files f) (λ e. other (e ∙ first.here old)))
]
first_set (old ∷ files) number (suc i) m t first number_is is f =
    let more = first_set files number i m t (rest_first old files number i first) number_is is f in
    elim (cases_eq f old.number) [
      | inl here ↦
          let other : f ≢ number = λ e. first.before 0 old (omega arith) (sym here ∙ e) in
          cond_yes f old.number (entry_of old) (entry_in (set files i m) f) here ∙ sym (cond_no f number t (entry_in (old ∷ files) f) other ∙ cond_yes f old.number (entry_of old) (entry_in files f) here)
      | inr ne ↦
          cond_no f old.number (entry_of old) (entry_in (set files i m) f) ne ∙ more
          ∙ ap (λ (x : Entry). cond (f == number) t x) (sym (cond_no f old.number (entry_of old) (entry_in files f) ne))
    ]

-- the room of all files, where one changes
pub calls_set : (files : List MemFile) (i : ℕ) (d m : MemFile) → i < length files → all_calls (set files i m) + (get_or files i d).calls_left ≡ all_calls files + m.calls_left
calls_set [] i d m lt = absurd (omega arith)
calls_set (old ∷ files) zero d m lt = omega arith
calls_set (old ∷ files) (suc i) d m lt = omega (arith, calls_set files i d m (omega (arith, lt)))

pub bytes_set : (files : List MemFile) (i : ℕ) (d m : MemFile) → i < length files → all_bytes (set files i m) + (get_or files i d).bytes_left ≡ all_bytes files + m.bytes_left
bytes_set [] i d m lt = absurd (omega arith)
bytes_set (old ∷ files) zero d m lt = omega arith
bytes_set (old ∷ files) (suc i) d m lt = omega (arith, bytes_set files i d m (omega (arith, lt)))

each_set : (files : List MemFile) (i : ℕ) (m : MemFile) → ((k : ℕ) (d : MemFile) → k < length files → IsKept (get_or files k d)) → IsKept m → (k : ℕ) (d : MemFile) → k < length (set files i m) → IsKept (get_or (set files i m) k d)
each_set [] i m kept is k d lt = absurd (omega (arith, lt))
each_set (old ∷ files) zero m kept is zero d lt = is
each_set (old ∷ files) zero m kept is (suc k) d lt = kept (suc k) d lt
each_set (old ∷ files) (suc i) m kept is zero d lt = kept 0 d (omega arith)
each_set (old ∷ files) (suc i) m kept is (suc k) d lt = each_set files i m (λ k d lt. kept (suc k) d (omega (arith, lt))) is k d (omega (arith, lt))

-- a file in the place of one of its number
module _ (files : List MemFile) (i : ℕ) (d m : MemFile) (inside : i < length files) (read : d ≡ get_or files i d) (number : m.number ≡ d.number) where
  pub numbers_set : (k : ℕ) (e : MemFile) → (get_or (set files i m) k e).number ≡ (get_or files k e).number
  numbers_set k e = elim (cases_eq k i) [
    | inl same ↦
        ap (λ (j : ℕ). (get_or (set files i m) j e).number) same ∙ ap (λ (x : MemFile). x.number) (get_or-set_same files i m e inside) ∙ number
        ∙ ap (λ (x : MemFile). x.number) (read ∙ get_or_default files i d e inside) ∙ ap (λ (j : ℕ). (get_or files j e).number) (sym same)
    | inr other ↦ ap (λ (x : MemFile). x.number) (get_or-set_other files i k m e other)
  ]

  pub kept_set : AreKept files → IsKept m → AreKept (set files i m)
  kept_set kept is = record {
    each = each_set files i m kept.each is;
    rising = λ j k e le lt. omega (arith, numbers_set j e, numbers_set k e, kept.rising j k e le (omega (arith, lt, length-set files i m)));
  }

put_kept : (number : ℕ) (files : ℕ → Entry) (f : ℕ) → put_entry number (files number) files f ≡ files f
put_kept number files f = elim (cases_eq f number) [
  | inl here ↦ cond_yes f number (files number) (files f) here ∙ ap files (sym here)
  | inr other ↦ cond_no f number (files number) (files f) other
]

-- one file of the table changes
module _ (files : List MemFile) (number i : ℕ) (d : MemFile) (first : IsFirst files number i) (read : d ≡ get_or files i d) where
  pub reads : entry_in files number ≡ entry_of d
  reads = first_reads files number i d first ∙ ap entry_of (sym read)

  number_is : d.number ≡ number
  number_is = ap (λ (m : MemFile). m.number) read ∙ first.here d

  pub set_to : (m : MemFile) (t : Entry) → m.number ≡ d.number → entry_of m ≡ t → (f : ℕ) → entry_in (set files i m) f ≡ put_entry number t (entry_in files) f
  set_to m t same is f = first_set files number i m t first (same ∙ number_is) is f

  pub set_kept : (m : MemFile) → m.number ≡ d.number → entry_of m ≡ entry_of d → (f : ℕ) → entry_in (set files i m) f ≡ entry_in files f
  set_kept m same is f = set_to m (entry_in files number) same (is ∙ sym reads) f ∙ put_kept number (entry_in files) f

  pub set_calls : (m : MemFile) → all_calls (set files i m) + d.calls_left ≡ all_calls files + m.calls_left
  set_calls m = ap (λ (x : MemFile). all_calls (set files i m) + x.calls_left) read ∙ calls_set files i d m first.inside

  pub set_bytes : (m : MemFile) → all_bytes (set files i m) + d.bytes_left ≡ all_bytes files + m.bytes_left
  set_bytes m = ap (λ (x : MemFile). all_bytes (set files i m) + x.bytes_left) read ∙ bytes_set files i d m first.inside

  pub is_kept : AreKept files → IsKept d
  is_kept kept = subst IsKept (sym read) (kept.each i d first.inside)

  pub set_are_kept : (m : MemFile) → m.number ≡ d.number → AreKept files → IsKept m → AreKept (set files i m)
  set_are_kept m number kept is = kept_set files i d m first.inside read number kept is

pub entry_is : {m m2 : Mem} {l l2 : List ℕ} {c c2 b b2 n n2 : ℕ} → m ≡ m2 → l ≡ l2 → c ≡ c2 → b ≡ b2 → n ≡ n2
    → (let x : Entry = record { mem = m; left = l; room = record { calls = c; bytes = b }; syncs = n } in let y : Entry = record { mem = m2; left = l2; room = record { calls = c2; bytes = b2 }; syncs = n2 } in x ≡ y)
entry_is p q r s t = λ i. record { mem = p i; left = q i; room = record { calls = r i; bytes = s i }; syncs = t i }

pub on_err : {T E P : Type 0} (r : Result T E) → P → OnErr r P
on_err (Ok x) p = tt
on_err (Err e) p = p

-- no file of this number
pub none_reads : (files : List MemFile) (number : ℕ) → IsAbsent files number → entry_in files number ≡ nothing
none_reads [] number none = refl
none_reads (m ∷ files) number none =
    cond_no number m.number (entry_of m) (entry_in files number) (λ is. none 0 m (omega arith) (sym is)) ∙ none_reads files number (λ k d lt. none (suc k) d (omega (arith, lt)))

-- a file has no more room than all together
pub entry_calls : (files : List MemFile) (f : ℕ) → (entry_in files f).room.calls ≤ all_calls files
entry_calls [] f = omega arith
entry_calls (m ∷ files) f = elim (f == m.number) as (λ b. (cond b (entry_of m) (entry_in files f)).room.calls ≤ m.calls_left + all_calls files) [ true ↦ omega arith | false ↦ omega (arith, entry_calls files f) ]

pub entry_bytes : (files : List MemFile) (f : ℕ) → (entry_in files f).room.bytes ≤ all_bytes files
entry_bytes [] f = omega arith
entry_bytes (m ∷ files) f = elim (f == m.number) as (λ b. (cond b (entry_of m) (entry_in files f)).room.bytes ≤ m.bytes_left + all_bytes files) [ true ↦ omega arith | false ↦ omega (arith, entry_bytes files f) ]
