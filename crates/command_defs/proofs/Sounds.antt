-- Sections stay sound, and a sound section's order uses up its jobs.
use Rattle.std.proofs.Common.{◌≡◌, ◌≢◌, ℕ, zero, suc, ◌+◌, ◌-◌, ◌<◌, ◌≤◌, Bool, true, false, List, [], ◌∷◌, ◌++◌, length, get_or, set, drop, fold, refl, sym, ap, ◌∙◌, subst, inl, inr, arith, length-append, length-set, get_or-set_same, get_or-set_other}
use Rattle.std.specs.Prelude.{◌==◌, if◌then◌else◌}
use Rattle.std.specs.List.{list_all, AllByRecursion}
use Rattle.std.proofs.lemmas.List.{get_or-replicate, length-replicate, drop-drop}
use Rattle.std.proofs.Math.Seq.{drop-length}
use Rattle.std.proofs.lemmas.List.Sums.{sum_by-cons, sum_by-append}
use Rattle.std.proofs.lemmas.List.Folds.{list_all-append}
use Rattle.std.proofs.lemmas.Bool.Decides.{eqb_tells, nat_tests}
use Rattle.global_defs.specs.declared.limits.TheConstants.{MOST_UPDATERS}
use Rattle.global_defs.specs.Jobs.{Statement, Job}
use Rattle.global_defs.specs.Serial.{without_next}
use Rattle.command_defs.specs.Commands.{Name, Run, IsFormed, UsesUp}
use Rattle.command_defs.specs.Parts.{is_name}
use Rattle.command_defs.specs.Updaters.{UPDATERS, is_updater, is_of_size}
use Rattle.command_defs.specs.Sections.{Section, begun, jobs_of, last_job, longer, with_job, transaction_begun, transaction_ended, count_in, IsSound}

-- who is an updater
pub updater_range : (u : ℕ) → is_updater u ≡ true → (1 ≤ u) × (u ≤ MOST_UPDATERS)
updater_range u h = grind (arith, nat_tests)

-- a property at each place of a list of which one place is changed
at_places : {X : Type 0} (P : ℕ → X → Type 0) (xs : List X) (k : ℕ) (y d : X) → k < length xs → P k y → ((i : ℕ) → i ≢ k → P i (get_or xs i d)) → (i : ℕ) → P i (get_or (set xs k y) i d)
at_places P xs k y d lt here others i = elim (eqb_tells i k) [
  | inl same ↦ subst (λ j. P j (get_or (set xs k y) j d)) (sym same.1) (subst (P k) (sym (get_or-set_same xs k y d lt)) here)
  | inr other ↦ subst (P i) (sym (get_or-set_other xs k i y d other.1)) (others i other.1)
]

list_all_set : {X : Type 0} (p : X → Bool) (xs : List X) (k : ℕ) (y : X) → list_all p xs ≡ true → p y ≡ true → list_all p (set xs k y) ≡ true
list_all_set p [] k y all here = refl
list_all_set p (x ∷ xs) zero y all here = grind (arith, nat_tests)
list_all_set p (x ∷ xs) (suc k) y all here = let rest : list_all p xs ≡ true = grind (arith, nat_tests) in let below = list_all_set p xs k y rest here in grind (arith, nat_tests)

all_from : {X : Type 0} (p : X → Bool) (xs : List X) (d : X) → ((i : ℕ) → i < length xs → p (get_or xs i d) ≡ true) → list_all p xs ≡ true
all_from p [] d h = refl
all_from p (x ∷ xs) d h = let here : p x ≡ true = h 0 (omega arith) in let below : list_all p xs ≡ true = all_from p xs d (λ i lt. h (suc i) (omega arith)) in grind (arith, nat_tests)

all_by : {X : Type 0} (P : X → Type 0) (xs : List X) (d : X) → ((i : ℕ) → i < length xs → P (get_or xs i d)) → AllByRecursion P xs
all_by P [] d h = tt
all_by P (x ∷ xs) d h = (h 0 (omega arith), all_by P xs d (λ i lt. h (suc i) (omega arith)))

count_same : (order : List ℕ) (u v : ℕ) → u ≡ v → count_in (order ++ u ∷ []) v ≡ count_in order v + 1
count_same order u v e = sum_by-append (λ w. if w == v then 1 else 0) order (u ∷ []) ∙ (let b = eqb_tells u v in grind (arith, nat_tests))

count_other : (order : List ℕ) (u v : ℕ) → u ≢ v → count_in (order ++ u ∷ []) v ≡ count_in order v
count_other order u v ne = sum_by-append (λ w. if w == v then 1 else 0) order (u ∷ []) ∙ (let b = eqb_tells u v in grind (arith, nat_tests))

pub sound_begun : (name : Name) → is_name name ≡ true → IsSound (begun name)
sound_begun name h = record {
  named = h;
  updaters = length-replicate {A = List Job} 64 [];
  openings = length-replicate 64 false;
  ordered = refl;
  counted = λ i lt. ap length (sym (get_or-replicate 64 i [] [] lt));
  sized = λ i lt. ap (λ (own : List Job). list_all is_of_size own) (get_or-replicate 64 i [] [] lt);
  begins = λ i lt opens. let e : false ≡ true = sym (get_or-replicate 64 i false false lt) ∙ opens in absurd (cc);
}

-- one job more
sound_job : (s : Section) (u : ℕ) (job : Job) (opened : List Bool) → IsSound s → is_updater u ≡ true → is_of_size job ≡ true → length opened ≡ UPDATERS
    → ((i : ℕ) → i ≢ u - 1 → get_or opened i false ≡ true → get_or s.opened i false ≡ true)
    → IsSound (record { name = s.name; jobs = set s.jobs (u - 1) (jobs_of s u ++ job ∷ []); order = s.order ++ u ∷ []; opened = opened })
sound_job s u job opened h is small openings others =
    let range = updater_range u is in
    let inside : u - 1 < length s.jobs = omega (arith, h.updaters) in
    record {
      named = h.named;
      updaters = length-set s.jobs (u - 1) _ ∙ h.updaters;
      openings = openings;
      ordered = list_all-append is_updater s.order (u ∷ []) ∙ (let o = h.ordered in grind (arith, nat_tests));
      counted = at_places (λ i own. i < UPDATERS → count_in (s.order ++ u ∷ []) (i + 1) ≡ length own) s.jobs (u - 1) (jobs_of s u ++ job ∷ []) [] inside
          (λ lt. count_same s.order u (u - 1 + 1) (omega arith) ∙ (ap (λ n. n + 1) (h.counted (u - 1) lt) ∙ sym (length-append (jobs_of s u) (job ∷ []))))
          (λ i ne lt. count_other s.order u (i + 1) (λ e. ne (omega arith)) ∙ h.counted i lt);
      sized = at_places (λ i own. i < UPDATERS → list_all is_of_size own ≡ true) s.jobs (u - 1) (jobs_of s u ++ job ∷ []) [] inside
          (λ lt. list_all-append is_of_size (jobs_of s u) (job ∷ []) ∙ (let o = h.sized (u - 1) lt in grind (arith, nat_tests)))
          (λ i ne lt. h.sized i lt);
      begins = at_places (λ i own. i < UPDATERS → get_or opened i false ≡ true → 0 < length own) s.jobs (u - 1) (jobs_of s u ++ job ∷ []) [] inside
          (λ lt opens. let e = length-append (jobs_of s u) (job ∷ []) in omega arith)
          (λ i ne lt opens. h.begins i lt (others i ne opens));
    }

pub sound_with_job : (s : Section) (u : ℕ) (job : Job) → IsSound s → is_updater u ≡ true → is_of_size job ≡ true → IsSound (with_job s u job)
sound_with_job s u job h is small = sound_job s u job s.opened h is small h.openings (λ i ne opens. opens)

pub sound_transaction_begun : (s : Section) (u : ℕ) → IsSound s → is_updater u ≡ true → IsSound (transaction_begun s u)
sound_transaction_begun s u h is = sound_job s u [] (set s.opened (u - 1) true) h is refl (length-set s.opened (u - 1) true ∙ h.openings)
    (λ i ne opens. sym (get_or-set_other s.opened (u - 1) i true false ne) ∙ opens)

pub sound_transaction_ended : (s : Section) (u : ℕ) → IsSound s → is_updater u ≡ true → IsSound (transaction_ended s u)
sound_transaction_ended s u h is =
    let range = updater_range u is in
    let inside : u - 1 < length s.opened = omega (arith, h.openings) in
    record {
      named = h.named;
      updaters = h.updaters;
      openings = length-set s.opened (u - 1) false ∙ h.openings;
      ordered = h.ordered;
      counted = h.counted;
      sized = h.sized;
      begins = at_places (λ i b. i < UPDATERS → b ≡ true → 0 < length (get_or s.jobs i [])) s.opened (u - 1) false false inside
          (λ lt opens. absurd (cc)) (λ i ne lt opens. h.begins i lt opens);
    }

-- one statement more in the last job of an updater
pub sound_longer : (s : Section) (u : ℕ) (statement : Statement) → IsSound s → is_updater u ≡ true → is_of_size (last_job (jobs_of s u) ++ statement ∷ []) ≡ true
    → IsSound (record s { jobs = set s.jobs (u - 1) (longer (jobs_of s u) statement) })
sound_longer s u statement h is small =
    let range = updater_range u is in
    let inside : u - 1 < length s.jobs = omega (arith, h.updaters) in
    let own = jobs_of s u in
    let last = last_job own ++ statement ∷ [] in
    record {
      named = h.named;
      updaters = length-set s.jobs (u - 1) _ ∙ h.updaters;
      openings = h.openings;
      ordered = h.ordered;
      counted = at_places (λ i own. i < UPDATERS → count_in s.order (i + 1) ≡ length own) s.jobs (u - 1) (longer own statement) [] inside
          (λ lt. h.counted (u - 1) lt ∙ sym (length-set own (length own - 1) last)) (λ i ne lt. h.counted i lt);
      sized = at_places (λ i own. i < UPDATERS → list_all is_of_size own ≡ true) s.jobs (u - 1) (longer own statement) [] inside
          (λ lt. list_all_set is_of_size own (length own - 1) last (h.sized (u - 1) lt) small) (λ i ne lt. h.sized i lt);
      begins = at_places (λ i own. i < UPDATERS → get_or s.opened i false ≡ true → 0 < length own) s.jobs (u - 1) (longer own statement) [] inside
          (λ lt opens. let b = h.begins (u - 1) lt opens in let e = length-set own (length own - 1) last in omega arith) (λ i ne lt opens. h.begins i lt opens);
    }

count_first : (order : List ℕ) (u v : ℕ) → u ≡ v → count_in (u ∷ order) v ≡ 1 + count_in order v
count_first order u v e = sum_by-cons (λ w. if w == v then 1 else 0) u order ∙ (let b = eqb_tells u v in grind (arith, nat_tests))

count_past : (order : List ℕ) (u v : ℕ) → u ≢ v → count_in (u ∷ order) v ≡ count_in order v
count_past order u v ne = sum_by-cons (λ w. if w == v then 1 else 0) u order ∙ (let b = eqb_tells u v in grind (arith, nat_tests))

-- what is left of each updater's jobs
left_of : (order : List ℕ) (jobs : List (List Job)) → length jobs ≡ 64 → list_all is_updater order ≡ true → (i : ℕ)
    → get_or (fold (λ left u. without_next u left) jobs order) i [] ≡ drop (count_in order (i + 1)) (get_or jobs i [])
left_of [] jobs len all i = refl
left_of (u ∷ order) jobs len all i =
    let is : is_updater u ≡ true = grind (arith, nat_tests) in
    let rest : list_all is_updater order ≡ true = grind (arith, nat_tests) in
    let range = updater_range u is in
    let own = get_or jobs i [] in
    left_of order (without_next u jobs) (length-set jobs (u - 1) _ ∙ len) rest i
    ∙ elim (eqb_tells u (i + 1)) [
      | inl same ↦ (let e : i ≡ u - 1 = omega (arith, same.1) in
          ap (drop (count_in order (i + 1))) (subst (λ k. get_or (without_next u jobs) k [] ≡ drop 1 (get_or jobs k [])) (sym e) (get_or-set_same jobs (u - 1) (drop 1 (get_or jobs (u - 1) [])) [] (omega arith)))
          ∙ (drop-drop (count_in order (i + 1)) 1 own ∙ ap (λ (n : ℕ). drop n own) (sym (count_first order u (i + 1) same.1))))
      | inr other ↦ (let ne : i ≢ u - 1 = λ e. other.1 (omega (arith, e, range)) in
          ap (drop (count_in order (i + 1))) (get_or-set_other jobs (u - 1) i (drop 1 (get_or jobs (u - 1) [])) [] ne)
          ∙ ap (λ (n : ℕ). drop n own) (sym (count_past order u (i + 1) other.1)))
    ]

length_left : (order : List ℕ) (jobs : List (List Job)) → length (fold (λ left u. without_next u left) jobs order) ≡ length jobs
length_left [] jobs = refl
length_left (u ∷ order) jobs = length_left order (without_next u jobs) ∙ length-set jobs (u - 1) _

pub uses_up : (s : Section) → IsSound s → UsesUp s.jobs s.order
uses_up s h = all_by (λ own. own ≡ []) (fold (λ left u. without_next u left) s.jobs s.order) []
    (λ i lt. let in_jobs : i < UPDATERS = omega (arith, length_left s.order s.jobs, h.updaters) in
    left_of s.order s.jobs h.updaters h.ordered i ∙ (ap (λ (n : ℕ). drop n (get_or s.jobs i [])) (h.counted i in_jobs) ∙ drop-length (get_or s.jobs i [])))

pub formed_run : (s : Section) → IsSound s → IsFormed (Run s.name s.jobs s.order)
formed_run s h = (h.named, h.updaters, h.ordered, all_from (λ own. list_all is_of_size own) s.jobs [] (λ i lt. h.sized i (omega (arith, h.updaters))))
