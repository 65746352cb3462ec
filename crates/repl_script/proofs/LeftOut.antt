-- A section decides the same where updaters without jobs are left out.
use Rattle.std.proofs.Common.{◌≡◌, ℕ, zero, suc, ◌+◌, ◌-◌, Bool, true, false, List, [], ◌∷◌, ◌++◌, length, drop, get_or, set, replicate, None, Some, refl, ◌∙◌, ap}
use Rattle.std.specs.Prelude.{Option, nat_lt, slice_get, if◌then◌else◌}
use Rattle.global_defs.specs.Entry.{Stamp, Sequence, state}
use Rattle.global_defs.specs.Jobs.{Job, SeqLimit}
use Rattle.global_defs.specs.Evaluation.{Evaluated, eval}
use Rattle.global_defs.specs.Evaluation as evaluation
use Rattle.global_defs.specs.Serial.{MOST_ENTRIES, Turn, Seq, Read, RolledBack, Reply, first_of, next_job, serial_at, entry_of, replied, decided, picked, serial, begun}
use Rattle.repl_script.specs.Places.{at_all}

-- a turn in which so many updaters without jobs aren't left out
abbrev pub with_more : ℕ → Turn → Turn
with_more k t = record t { left = t.left ++ replicate k [] }

none_first : (k i : ℕ) → first_of (slice_get (replicate k []) i) ≡ None
none_first zero i = refl
none_first (suc k) zero = refl
none_first (suc k) (suc i) = none_first k i

next_same : (k : ℕ) (left : List (List Job)) (i : ℕ) → first_of (slice_get (left ++ replicate k []) i) ≡ first_of (slice_get left i)
next_same k [] i = none_first k i
next_same k (own ∷ left) zero = refl
next_same k (own ∷ left) (suc i) = next_same k left i

none_less : (k i : ℕ) → set (replicate k []) i (drop 1 (get_or (replicate {A = List Job} k []) i [])) ≡ replicate k []
none_less zero i = refl
none_less (suc k) zero = refl
none_less (suc k) (suc i) = ap (λ (left : List (List Job)). [] ∷ left) (none_less k i)

rest_same : (k : ℕ) (left : List (List Job)) (i : ℕ) → set (left ++ replicate k []) i (drop 1 (get_or (left ++ replicate k []) i [])) ≡ set left i (drop 1 (get_or left i [])) ++ replicate k []
rest_same k [] i = none_less k i
rest_same k (own ∷ left) zero = refl
rest_same k (own ∷ left) (suc i) = ap (λ (l : List (List Job)). own ∷ l) (rest_same k left i)

replied_same : (k : ℕ) (t : Turn) (u : ℕ) (reply : Reply) (seq : Sequence) → replied (with_more k t) u reply seq ≡ with_more k (replied t u reply seq)
replied_same k t u reply seq = ap (λ (left : List (List Job)). record (replied t u reply seq) { left = left }) (rest_same k t.left (u - 1))

either : (k : ℕ) (b : Bool) (x y x' y' : Turn) → x ≡ with_more k x' → y ≡ with_more k y' → (if b then x else y) ≡ with_more k (if b then x' else y')
either k true x y x' y' e f = e
either k false x y x' y' e f = f

decided_same : (k : ℕ) (stamp : Stamp) (t : Turn) (u : ℕ) (e : Evaluated) → decided stamp (with_more k t) u e ≡ with_more k (decided stamp t u e)
decided_same k stamp t u (evaluation.RolledBack cause) = replied_same k t u (RolledBack cause) t.sequence
decided_same k stamp t u (evaluation.Done [] answers) = replied_same k t u (Read answers) t.sequence
decided_same k stamp t u (evaluation.Done (x ∷ xs) answers) =
    let seq : Sequence = t.sequence ++ entry_of stamp u (serial_at t.serials u) (x ∷ xs) ∷ [] in
    let reply : Reply = Seq (length t.sequence + 1) answers in
    either k (nat_lt (length t.sequence) MOST_ENTRIES) (replied (with_more k t) u reply seq) (replied (with_more k t) u (RolledBack SeqLimit) t.sequence) (replied t u reply seq) (replied t u (RolledBack SeqLimit) t.sequence)
    (replied_same k t u reply seq) (replied_same k t u (RolledBack SeqLimit) t.sequence)

picked_same : (k : ℕ) (stamp : Stamp) (t : Turn) (u : ℕ) (o : Option Job) → picked stamp (with_more k t) u o ≡ with_more k (picked stamp t u o)
picked_same k stamp t u None = refl
picked_same k stamp t u (Some job) = decided_same k stamp t u (eval job (state t.sequence))

serial_same : (k : ℕ) (stamp : Stamp) (picks : List ℕ) (t : Turn) → serial stamp picks (with_more k t) ≡ with_more k (serial stamp picks t)
serial_same k stamp [] t = refl
serial_same k stamp (u ∷ us) t =
    ap (λ (o : Option Job). serial stamp us (picked stamp (with_more k t) u o)) (next_same k t.left (u - 1))
    ∙ ap (serial stamp us) (picked_same k stamp t u (next_job u t.left)) ∙ serial_same k stamp us (picked stamp t u (next_job u t.left))

-- what all jobs come to, but for the jobs that are left
pub turn_same : (stamp : Stamp) (serials : List ℕ) (jobs : List (List Job)) (picks : List ℕ) (seq : Sequence) → serial stamp picks (begun serials (at_all jobs) seq) ≡ with_more (64 - length jobs) (serial stamp picks (begun serials jobs seq))
turn_same stamp serials jobs picks seq = serial_same (64 - length jobs) stamp picks (begun serials jobs seq)
