-- Jobs of which the last updaters' may be left out.
use Rattle.std.proofs.Common.{inl, inr, ◌≡◌, ℕ, zero, suc, ◌-◌, ◌<◌, List, [], ◌∷◌, ◌++◌, length, get_or, set, replicate, Some, refl, sym, ◌∙◌, ap, arith, append_assoc, length-set}
use Rattle.std.specs.Prelude.{OnOk, OnErr, slice_get}
use Rattle.std.specs.declared.result.Result.{Result}
use Rattle.std.specs.declared.result.Result.TheVariants.{Ok, Err}
use Rattle.std.proofs.lemmas.Bool.{cases_lt}
use Rattle.std.proofs.lemmas.List.{length_push, get_or_append_left, get_or-append_right, get_or_past, set-append_left}
use Rattle.std.proofs.lemmas.Option.{get_or_from_slice_get}
use Rattle.global_defs.specs.Jobs.{Statement, Job}
use Rattle.command_defs.specs.Sections.{last_job, longer}
use Rattle.repl_script.specs.Places.{at_all}

-- an updater without jobs more
pub one_more : (jobs : List (List Job)) → length jobs < 64 → at_all (jobs ++ [] ∷ []) ≡ at_all jobs
one_more jobs low =
    let long = length_push jobs [] in
    let count : 64 - length jobs ≡ suc (64 - length (jobs ++ [] ∷ [])) = omega (arith, long, low) in
    append_assoc jobs ([] ∷ []) (replicate (64 - length (jobs ++ [] ∷ [])) []) ∙ ap (λ (k : ℕ). jobs ++ replicate k []) (sym count)

none_there : (k i : ℕ) → get_or (replicate {A = List Job} k []) i [] ≡ []
none_there zero i = refl
none_there (suc k) zero = refl
none_there (suc k) (suc i) = none_there k i

-- what an updater has
pub at_place : (jobs : List (List Job)) (i : ℕ) → get_or (at_all jobs) i [] ≡ get_or jobs i []
at_place jobs i = elim (cases_lt i (length jobs)) [
  | inl inside ↦ get_or_append_left jobs (replicate (64 - length jobs) []) [] i inside
  | inr past ↦ get_or-append_right jobs (replicate (64 - length jobs) []) (length jobs) i [] refl past ∙ none_there (64 - length jobs) (i - length jobs) ∙ sym (get_or_past jobs i [] past)
]

-- who has a job isn't left out
pub is_there : (jobs : List (List Job)) (i : ℕ) → 0 < length (get_or (at_all jobs) i []) → i < length jobs
is_there jobs i some = elim (cases_lt i (length jobs)) [
  | inl inside ↦ inside
  | inr past ↦ (let none = ap (λ (l : List Job). length l) (at_place jobs i ∙ get_or_past jobs i [] past) in absurd (omega (arith, none, some)))
]

set_place : (jobs : List (List Job)) (i : ℕ) (own : List Job) → i < length jobs → at_all (set jobs i own) ≡ set (at_all jobs) i own
set_place jobs i own inside =
    ap (λ (k : ℕ). set jobs i own ++ replicate (64 - k) []) (length-set jobs i own) ∙ sym (set-append_left jobs (replicate (64 - length jobs) []) i own inside)

-- a job more of an updater that isn't left out, or memory ran out
pub job_put : {X E : Type 0} (r : Result X E) (old made new : List (List Job)) (i : ℕ) (job : Job) → at_all made ≡ at_all old → i < length made → OnOk r (new ≡ set made i (get_or made i [] ++ job ∷ []))
    → OnOk r (at_all new ≡ set (at_all old) i (get_or (at_all old) i [] ++ job ∷ []))
job_put (Ok x) old made new i job same inside is =
    ap at_all is ∙ set_place made i (get_or made i [] ++ job ∷ []) inside ∙ ap (λ (own : List Job). set (at_all made) i (own ++ job ∷ [])) (sym (at_place made i))
    ∙ ap (λ (all : List (List Job)). set all i (get_or all i [] ++ job ∷ [])) same
job_put (Err e) old made new i job same inside is = is

-- a statement more of one, or memory ran out
pub statement_put : {X E : Type 0} (r : Result X E) (old new : List (List Job)) (i : ℕ) (statement : Statement) → i < length old → OnOk r (new ≡ set old i (longer (get_or old i []) statement))
    → OnOk r (at_all new ≡ set (at_all old) i (longer (get_or (at_all old) i []) statement))
statement_put (Ok x) old new i statement inside is =
    ap at_all is ∙ set_place old i (longer (get_or old i []) statement) inside ∙ ap (λ (own : List Job). set (at_all old) i (longer own statement)) (sym (at_place old i))
statement_put (Err e) old new i statement inside is = is

pub still_all : {X E : Type 0} (r : Result X E) (old made new : List (List Job)) → at_all made ≡ at_all old → OnErr r (new ≡ made) → OnErr r (at_all new ≡ at_all old)
still_all (Ok x) old made new same is = is
still_all (Err e) old made new same is = ap at_all is ∙ same

-- the jobs of who has a place
pub own_is : (jobs : List (List Job)) (i k : ℕ) (own : List Job) → k ≡ i → slice_get jobs k ≡ Some own → get_or (at_all jobs) i [] ≡ own
own_is jobs i k own at is = at_place jobs i ∙ ap (λ (n : ℕ). get_or jobs n []) (sym at) ∙ get_or_from_slice_get jobs k own [] is

-- and the last of them
pub last_there : (jobs : List (List Job)) (i k : ℕ) (own : List Job) (n : ℕ) (last : Job) → k ≡ i → slice_get jobs k ≡ Some own → n ≡ length own → slice_get own (n - 1) ≡ Some last
    → last ≡ last_job (get_or (at_all jobs) i [])
last_there jobs i k own n last at is count end =
    sym (ap (λ (l : List Job). last_job l) (own_is jobs i k own at is) ∙ ap (λ (m : ℕ). get_or own (m - 1) []) (sym count) ∙ get_or_from_slice_get own (n - 1) last [] end)
