-- How far a job has come has a code, so it can be what a struct stands for.
use Rattle.std.specs.Prelude.{◌≡◌, ℕ, ◌==◌, List, [], if◌then◌else◌, refl}
use Rattle.std.specs.Coded.{Coded, code_by, coded×, coded_list, coded_ℕ}
use Rattle.global_defs.specs.Key.{Key}
use Rattle.global_defs.specs.Entry.{Update, Set, Kill, ZKill, Globals}
use Rattle.global_defs.specs.Jobs.{Answers}
use Rattle.global_defs.specs.Evaluation.{Progress}
use Rattle.gvn_globals.specs.Codes.{key_code, globals_code}

-- an update as a tag, a key and a value
abbrev pub update_to : Update → ℕ × (Key × List ℕ)
update_to (Set key value) = (0, (key, value))
update_to (Kill key) = (1, (key, []))
update_to (ZKill key) = (2, (key, []))

abbrev pub update_from : ℕ × (Key × List ℕ) → Update
update_from p = if p.0 == 0 then Set p.1.0 p.1.1 else (if p.0 == 1 then Kill p.1.0 else ZKill p.1.0)

abbrev pub update_back : (u : Update) → update_from (update_to u) ≡ u
update_back (Set key value) = refl
update_back (Kill key) = refl
update_back (ZKill key) = refl

abbrev pub update_code : Coded Update
update_code = code_by (ℕ × (Key × List ℕ)) (coded× coded_ℕ (coded× key_code (coded_list coded_ℕ))) update_to update_from update_back

abbrev pub progress_code : Coded Progress
progress_code = code_by (Globals × (List Update × Answers)) (coded× globals_code (coded× (coded_list update_code) (coded_list (coded_list coded_ℕ)))) (λ p. (p.globals, (p.updates, p.answers))) (λ p. record { globals = p.0; updates = p.1.0; answers = p.1.1 }) (λ _. refl)
