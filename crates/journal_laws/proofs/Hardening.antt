-- Entries that are appended together, and of which a crash leaves the first few.
use Rattle.std.proofs.Common.{◌≡◌, ℕ, ◌+◌, ◌≤◌, List, [], ◌∷◌, ◌++◌, length, take, Option, Some, None, refl, sym, subst, arith, append_assoc, append-nil, length-append}
use Rattle.std.proofs.Math.Path.{fun_ext}
use Rattle.global_defs.specs.Entry.{Sequence}
use Rattle.journal_defs.specs.Journal.{Part}
use Rattle.journal_defs.specs.Instance.{InstanceRecord}
use Rattle.journal_defs.specs.Sequence.{Records, IsSequence}
use Rattle.journal_defs.specs.Growth.{with_parts, with_more, placed, appended, AreEntries, NonePast, TidyPast, NumbersRise}
use Rattle.journal_laws.proofs.Runs as runs
use Rattle.journal_laws.proofs.Fewer as fewer
use Rattle.journal_laws.proofs.Crashes as crashes

-- the first entry's parts, and then the others'
first_and_more : (s : Records) (g : ℕ) (p : ℕ → Option Part) (ps : List (ℕ → Option Part)) → with_more (with_parts s g p) (appended g ps) ≡ with_more s (appended g (p ∷ ps))
first_and_more s g p ps = λ i. record { instance = s.instance; journal = fun_ext each i }
  where
    each : (r : ℕ) → (s.journal r ++ placed g (p r)) ++ appended g ps r ≡ s.journal r ++ (placed g (p r) ++ appended g ps r)
    each r = append_assoc (s.journal r) (placed g (p r)) (appended g ps r)

nothing_more : (s : Records) (g : ℕ) → s ≡ with_more s (appended g [])
nothing_more s g = λ i. record { instance = s.instance; journal = fun_ext each i }
  where
    each : (r : ℕ) → s.journal r ≡ s.journal r ++ []
    each r = sym (append-nil (s.journal r))

-- what all of them together make
pub record IsLonger (n : ℕ) (s : Records) (seq : Sequence) : Type 0 where
  pub sequence : IsSequence s seq
  pub tidy : TidyPast n s

all_of_them : (s : Records) (seq : Sequence) (h n g : ℕ) (ps : List (ℕ → Option Part)) (es : Sequence) → IsSequence s seq → NonePast n s → TidyPast h s → n ≡ length seq
    → AreEntries s.instance g n ps es → IsLonger h (with_more s (appended g ps)) (seq ++ es)
all_of_them s seq h n g [] [] is none tidy long entries =
    subst (λ (u : Records). IsLonger h u (seq ++ [])) (nothing_more s g) (record { sequence = subst (IsSequence s) (sym (append-nil seq)) is; tidy = tidy })
all_of_them s seq h n g [] (e ∷ es) is none tidy long entries = absurd entries
all_of_them s seq h n g (p ∷ ps) [] is none tidy long entries = absurd entries
all_of_them s seq h n g (p ∷ ps) (e ∷ es) is none tidy long entries =
    let u : Records = with_parts s g p in
    let past = subst (λ (k : ℕ). NonePast k s) long none in
    let one : IsSequence u (seq ++ e ∷ []) = runs.longer s seq (n + 1) g p e is past (omega arith) entries.0 entries.2 entries.3 in
    let later : NonePast (n + 1) u = runs.none_past_longer s (n + 1) g p (λ k r high. none k r (omega arith)) entries.0 in
    let tidier : TidyPast h u = fewer.tidy_parts s h (n + 1) g p tidy entries.0 entries.2 (λ r. none (n + 1) r (omega arith)) entries.1 in
    let size : length (seq ++ e ∷ []) ≡ length seq + 1 = length-append seq (e ∷ []) in
    let rest = all_of_them u (seq ++ e ∷ []) h (n + 1) g ps es one later tidier (omega (arith, size, long)) entries.4 in
    subst (λ (l : Sequence). IsLonger h (with_more s (appended g (p ∷ ps))) l) (append_assoc seq (e ∷ []) es)
    (subst (λ (v : Records). IsLonger h v ((seq ++ e ∷ []) ++ es)) (first_and_more s g p ps) rest)

pub rising : (instance : List InstanceRecord) (g n low r : ℕ) (ps : List (ℕ → Option Part)) (es : Sequence) → AreEntries instance g n ps es → low ≤ n → NumbersRise low (appended g ps r)
rising instance g n low r [] [] entries le = tt
rising instance g n low r [] (e ∷ es) entries le = absurd entries
rising instance g n low r (p ∷ ps) [] entries le = absurd entries
rising instance g n low r (p ∷ ps) (e ∷ es) entries le =
    elim (p r) as (λ o. p r ≡ o → NumbersRise low (placed g o ++ appended g ps r)) [
      | None ↦ λ is. rising instance g (n + 1) low r ps es entries.4 (omega arith)
      | Some x ↦ λ is. (
        (let numbered : x.number ≡ n + 1 = entries.0 r x is in omega (arith, numbered)),
        rising instance g (n + 1) x.number r ps es entries.4 (let numbered : x.number ≡ n + 1 = entries.0 r x is in omega (arith, numbered)),
      )
    ] refl

pub all : (s : Records) (seq : Sequence) (g : ℕ) (ps : List (ℕ → Option Part)) (es : Sequence) → IsSequence s seq → NonePast (length seq) s
    → AreEntries s.instance g (length seq) ps es → IsSequence (with_more s (appended g ps)) (seq ++ es)
all s seq g ps es is none entries = (all_of_them s seq (length seq) (length seq) g ps es is none (fewer.tidy_start s (length seq) none) refl entries).sequence

pub some : (s : Records) (seq : Sequence) (g : ℕ) (ps : List (ℕ → Option Part)) (es : Sequence) (kept : ℕ → ℕ) → IsSequence s seq → NonePast (length seq) s
    → AreEntries s.instance g (length seq) ps es
    → (j : ℕ) × (length seq ≤ j) × (j ≤ length (seq ++ es)) × IsSequence (with_more s (λ r. take (kept r) (appended g ps r))) (take j (seq ++ es))
some s seq g ps es kept is none entries =
    let whole = all_of_them s seq (length seq) (length seq) g ps es is none (fewer.tidy_start s (length seq) none) refl entries in
    let size : length (seq ++ es) ≡ length seq + length es = length-append seq es in
    crashes.crash s (appended g ps) kept (seq ++ es) (length seq) whole.sequence whole.tidy none
    (λ r. rising s.instance g (length seq) (length seq) r ps es entries (omega arith)) (omega (arith, size))
