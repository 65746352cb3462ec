-- Jobs within their limits.
use Rattle.std.proofs.Common.{◌≡◌, ℕ, zero, suc, ◌+◌, ◌-◌, ◌<◌, ◌&&◌, Bool, true, false, List, [], ◌∷◌, ◌++◌, length, take, get_or, refl, sym, ap, ◌∙◌, arith}
use Rattle.std.specs.Prelude.{nat_le, if◌then◌else◌}
use Rattle.std.specs.List.{list_all}
use Rattle.std.specs.declared.result.Result.TheVariants.{Ok}
use Rattle.std.proofs.lemmas.Bool.Decides.{nat_tests}
use Rattle.global_defs.specs.Jobs.{Statement}
use Rattle.script_defs.specs.Parts.{word_end}
use Rattle.script_defs.specs.Statements.{statement_reading}
use Rattle.command_defs.specs.Sections.{Section, is_open, is_full, is_full_job, jobs_of, last_job, is_update_word, IsSound}
use Rattle.command_defs.specs.Updaters.{is_updater, is_update, is_of_size}
use Rattle.command_defs.proofs.Sounds.{updater_range}
use Rattle.command_defs.proofs.UpdateWords.{update_word, not_full}

few : (b : Bool) → (nat_le 1 1024 && nat_le (0 + (if b then 1 else 0)) 256) ≡ true
few true = refl
few false = refl

-- a job of one statement
pub one_small : (statement : Statement) → is_of_size (statement ∷ []) ≡ true
one_small statement = few (is_update statement)

all_at : {X : Type 0} (p : X → Bool) (xs : List X) (i : ℕ) (d : X) → i < length xs → list_all p xs ≡ true → p (get_or xs i d) ≡ true
all_at p [] i d lt all = absurd (omega arith)
all_at p (x ∷ xs) zero d lt all = grind (arith, nat_tests)
all_at p (x ∷ xs) (suc i) d lt all = let rest : list_all p xs ≡ true = grind (arith, nat_tests) in all_at p xs i d (omega arith) rest

-- an open transaction is within its limits
pub open_sized : (s : Section) (u : ℕ) → IsSound s → is_updater u ≡ true → is_open s u ≡ true → is_of_size (last_job (jobs_of s u)) ≡ true
open_sized s u h is opens =
    let range = updater_range u is in
    let own = jobs_of s u in
    let some : 0 < length own = h.begins (u - 1) (omega arith) opens in
    all_at is_of_size own (length own - 1) [] (omega arith) (h.sized (u - 1) (omega arith))

both : (a b : Bool) → (a && b) ≡ false → a ≡ true → b ≡ false
both true b e t = e
both false b e t = absurd (cc)

-- it stays so with a statement that it takes
pub still_sized : (s : Section) (u : ℕ) (word text : List ℕ) (statement : Statement) → (is_open s u ≡ true → is_of_size (last_job (jobs_of s u)) ≡ true) → is_full s u word ≡ false
    → word ≡ take (word_end text) text → statement_reading text ≡ Ok statement → is_open s u ≡ true → is_of_size (last_job (jobs_of s u) ++ statement ∷ []) ≡ true
still_sized s u word text statement sized free same read opens =
    not_full (last_job (jobs_of s u)) word statement (sized opens) (both (is_open s u) (is_full_job (last_job (jobs_of s u)) word) free opens)
    (update_word text statement read ∙ ap is_update_word (sym same))
