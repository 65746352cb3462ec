-- Regions as they are read one after another.
use Rattle.std.proofs.Common.{◌≡◌, ℕ, zero, suc, ◌+◌, ◌-◌, ◌≤◌, ◌==◌, true, false, List, [], ◌∷◌, ◌++◌, length, take, refl, ◌∙◌, subst, inl, inr, arith, length-append}
use Rattle.std.specs.List.{list_all, IsDistinct}
use Rattle.std.specs.Str.{bytes_eq}
use Rattle.std.specs.declared.result.Result.TheVariants.{Ok, Err}
use Rattle.std.proofs.lemmas.List.Folds.{list_all-append}
use Rattle.std.proofs.lemmas.Bool.{and_from, cond-true, cond-false}
use Rattle.global_defs.specs.declared.limits.TheConstants.{MOST_REGIONS}
use Rattle.global_defs.specs.Region.{Region}
use Rattle.script_defs.specs.Parts.{word_end}
use Rattle.command_defs.specs.Commands.{region_form, regions_behind, regions_reading}
use Rattle.command_defs.specs.Parts.{column, followed, taken, ended, is_name}
use Rattle.command_defs.proofs.Regions.{names_of, distinct_one, regions_more}
use Rattle.command_defs.proofs.Taken.{followed_found, taken_form, ended_found}
use Rattle.command_defs.proofs.RegionOrders.{region_is}
use Rattle.gvn_key.proofs.KeyTextFound.{chosen}

-- regions of different names, these and so many more at most
record Kept (before : List Region) (room : ℕ) (regions : List Region) : Type 0 where
  formed : list_all (λ r. is_name r.name) regions ≡ true
  some : length before ≤ length regions
  few : length regions ≤ length before + room
  different : IsDistinct bytes_eq (names_of regions)

kept_same : (room : ℕ) (before regions : List Region) → list_all (λ r. is_name r.name) before ≡ true → IsDistinct bytes_eq (names_of before) → before ≡ regions → Kept before room regions
kept_same room before regions all different same = subst (λ rs. Kept before room rs) same (record { formed = all; some = omega arith; few = omega arith; different = different })

kept_more : (room : ℕ) (before regions : List Region) (r : Region) → Kept (before ++ r ∷ []) room regions → Kept before (suc room) regions
kept_more room before regions r k =
    let long = length-append before (r ∷ []) in
    record { formed = k.formed; some = omega (arith, k.some); few = omega (arith, k.few); different = k.different }

all_more : (before : List Region) (r : Region) → list_all (λ x. is_name x.name) before ≡ true → is_name r.name ≡ true → list_all (λ x. is_name x.name) (before ++ r ∷ []) ≡ true
all_more before r all good = list_all-append (λ (x : Region). is_name x.name) before (r ∷ [])
    ∙ and_from (list_all (λ x. is_name x.name) before) (list_all (λ x. is_name x.name) (r ∷ [])) all (and_from (is_name r.name) true good refl)

behind_kept : (room len : ℕ) (left : List ℕ) (before regions : List Region) → list_all (λ r. is_name r.name) before ≡ true → IsDistinct bytes_eq (names_of before) → regions_behind room len left before ≡ Ok regions → Kept before room regions
unfolding regions_behind
behind_kept zero len left before regions all different e = kept_same 0 before regions all different (ended_found len left before regions e).1
behind_kept (suc room) len left before regions all different e =
    let step = λ (region : Region × List ℕ). regions_behind room len region.1 (before ++ region.0 ∷ []) in
    elim (chosen (length left == 0) (Ok before) (followed (taken (region_form before) len left) step) (Ok regions) e) [
      | inl h ↦ kept_same (suc room) before regions all different (cc h.1)
      | inr h ↦ (let a = followed_found (taken (region_form before) len left) step regions h.1 in
          let f = region_is before (take (word_end left) left) a.0.0 (taken_form (region_form before) len left a.0 a.1) in
          kept_more room before regions a.0.0 (behind_kept room len a.0.1 (before ++ a.0.0 ∷ []) regions (all_more before a.0.0 all f.1) (regions_more before a.0.0 different f.2) a.2))
    ]

-- regions that were read are of their form
pub regions_formed : (len : ℕ) (left : List ℕ) (regions : List Region) → regions_reading len left ≡ Ok regions
    → (list_all (λ r. is_name r.name) regions ≡ true) × (1 ≤ length regions) × (length regions ≤ MOST_REGIONS) × IsDistinct bytes_eq (names_of regions)
regions_formed len left regions e =
    let step = λ (first : Region × List ℕ). regions_behind (MOST_REGIONS - 1) len first.1 (first.0 ∷ []) in
    let a = followed_found (taken (region_form []) len left) step regions e in
    let n = region_is [] (take (word_end left) left) a.0.0 (taken_form (region_form []) len left a.0 a.1) in
    let k = behind_kept (MOST_REGIONS - 1) len a.0.1 (a.0.0 ∷ []) regions (and_from (is_name a.0.0.name) true n.1 refl) (distinct_one a.0.0.name) a.2 in
    (k.formed, omega (arith, k.some), omega (arith, k.few), k.different)

-- What is read where regions stand already.

-- no more
pub behind_none : (room len : ℕ) (left : List ℕ) (before : List Region) → (length left == 0) ≡ true → regions_behind room len left before ≡ Ok before
unfolding regions_behind
behind_none zero len left before none = cond-true (length left == 0) (Ok before) (Err (column len left)) none
behind_none (suc room) len left before none = cond-true (length left == 0) (Ok before) (followed (taken (region_form before) len left) (λ region. regions_behind room len region.1 (before ++ region.0 ∷ []))) none

-- no room
pub behind_full : (len : ℕ) (left : List ℕ) (before : List Region) → regions_behind 0 len left before ≡ ended len left before
unfolding regions_behind
behind_full len left before = refl

-- one more
pub behind_one : (room len : ℕ) (left : List ℕ) (before : List Region) → (length left == 0) ≡ false
    → regions_behind (suc room) len left before ≡ followed (taken (region_form before) len left) (λ region. regions_behind room len region.1 (before ++ region.0 ∷ []))
unfolding regions_behind
behind_one room len left before some = cond-false (length left == 0) (Ok before) (followed (taken (region_form before) len left) (λ region. regions_behind room len region.1 (before ++ region.0 ∷ []))) some
