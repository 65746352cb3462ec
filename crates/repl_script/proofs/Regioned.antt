-- Regions that are read one after another.
use Rattle.std.proofs.Common.{◌≡◌, ℕ, suc, ◌+◌, ◌-◌, ◌<◌, ◌≤◌, ◌==◌, Bool, true, false, List, [], ◌∷◌, ◌++◌, length, map, sym, ap, ◌∙◌, inl, inr, arith}
use Rattle.std.specs.Prelude.{Option, Some, None}
use Rattle.std.specs.declared.result.Result.{Result}
use Rattle.std.specs.declared.result.Result.TheVariants.{Ok, Err}
use Rattle.command_defs.specs.Commands.{region_form, regions_behind}
use Rattle.std.proofs.lemmas.Bool.{cond-false}
use Rattle.global_defs.specs.Region.{Region}
use Rattle.gvn_model.specs.Regions.{named_region}
use Rattle.command_defs.specs.Parts.{column, followed, taken, ended}
use Rattle.command_defs.proofs.RegionForms.{behind_none, behind_full, behind_one}
use Rattle.repl_script.specs.Reads.{Tells}
use Rattle.gvn_key.proofs.KeyTextFound.{chosen}

-- room for one more
one_room : (count len : ℕ) (rest : List ℕ) (before slice : List (List ℕ × Bool)) (whole : Result (List Region) ℕ) → count < 8 → (length rest == 0) ≡ false → slice ≡ before
    → regions_behind (8 - count) len rest (map named_region before) ≡ whole
    → followed (taken (region_form (map named_region slice)) len rest) (λ region. regions_behind (8 - (count + 1)) len region.1 (map named_region before ++ region.0 ∷ [])) ≡ whole
one_room count len rest before slice whole low some same e =
    let step = λ (region : Region × List ℕ). regions_behind (8 - (count + 1)) len region.1 (map named_region before ++ region.0 ∷ []) in
    let room : suc (8 - (count + 1)) ≡ 8 - count = omega arith in
    ap (λ (s : List (List ℕ × Bool)). followed (taken (region_form (map named_region s)) len rest) step) same
    ∙ (sym (behind_one (8 - (count + 1)) len rest (map named_region before) some) ∙ (ap (λ (n : ℕ). regions_behind n len rest (map named_region before)) room ∙ e))

-- a region more was read
pub region_taken : (count len : ℕ) (rest : List ℕ) (region : Region) (behind : List ℕ) (before slice new : List (List ℕ × Bool)) (whole : Result (List Region) ℕ) → count < 8 → (length rest == 0) ≡ false → slice ≡ before
    → taken (region_form (map named_region slice)) len rest ≡ Ok (region, behind) → map named_region new ≡ map named_region before ++ region ∷ []
    → regions_behind (8 - count) len rest (map named_region before) ≡ whole → regions_behind (8 - (count + 1)) len behind (map named_region new) ≡ whole
region_taken count len rest region behind before slice new whole low some same read added e =
    let step = λ (region : Region × List ℕ). regions_behind (8 - (count + 1)) len region.1 (map named_region before ++ region.0 ∷ []) in
    ap (regions_behind (8 - (count + 1)) len behind) added
    ∙ (sym (ap (λ (r : Result (Region × List ℕ) ℕ). followed r step) read) ∙ one_room count len rest before slice whole low some same e)

-- a part was bad, or memory ran out
pub region_bad : (count len : ℕ) (rest : List ℕ) (before slice : List (List ℕ × Bool)) (whole : Result (List Region) ℕ) (o : Option ℕ) → count < 8 → (length rest == 0) ≡ false → slice ≡ before
    → Tells o (taken (region_form (map named_region slice)) len rest) → regions_behind (8 - count) len rest (map named_region before) ≡ whole → Tells o whole
region_bad count len rest before slice whole None low some same told e = tt
region_bad count len rest before slice whole (Some at) low some same told e =
    let step = λ (region : Region × List ℕ). regions_behind (8 - (count + 1)) len region.1 (map named_region before ++ region.0 ∷ []) in
    sym (one_room count len rest before slice whole low some same e) ∙ ap (λ (r : Result (Region × List ℕ) ℕ). followed r step) told

-- nothing more came
pub regions_done : (count len : ℕ) (rest : List ℕ) (regions : List (List ℕ × Bool)) (whole : Result (List Region) ℕ) → (length rest == 0) ≡ true
    → regions_behind (8 - count) len rest (map named_region regions) ≡ whole → whole ≡ Ok (map named_region regions)
regions_done count len rest regions whole none e = sym e ∙ behind_none (8 - count) len rest (map named_region regions) none

-- nothing is left where nothing more may come
pub none_left : (len : ℕ) (rest : List ℕ) (x : Unit {0}) → ended len rest tt ≡ Ok x → (length rest == 0) ≡ true
none_left len rest x e = elim (chosen (length rest == 0) (Ok tt) (Err (column len rest)) (Ok x) e) [
  | inl h ↦ h.0
  | inr h ↦ absurd (cc h.1)
]

-- a part too much
pub region_too_much : (count len : ℕ) (rest : List ℕ) (regions : List (List ℕ × Bool)) (whole : Result (List Region) ℕ) (o : Option ℕ) → 8 ≤ count → Tells o (ended {X = Unit {0}} len rest tt)
    → regions_behind (8 - count) len rest (map named_region regions) ≡ whole → Tells o whole
region_too_much count len rest regions whole None full told e = tt
region_too_much count len rest regions whole (Some at) full told e =
    let room : 8 - count ≡ 0 = omega arith in
    let bad : ended len rest (map named_region regions) ≡ Err at = elim (chosen {A = Result (Unit {0}) ℕ} (length rest == 0) (Ok tt) (Err (column len rest)) (Err at) told) [
      | inl h ↦ absurd (cc h.1)
      | inr h ↦ (let same : column len rest ≡ at = cc h.1 in cond-false (length rest == 0) (Ok (map named_region regions)) (Err (column len rest)) h.0 ∙ ap Err same)
    ] in
    sym e ∙ (ap (λ (n : ℕ). regions_behind n len rest (map named_region regions)) room ∙ (behind_full len rest (map named_region regions) ∙ bad))
